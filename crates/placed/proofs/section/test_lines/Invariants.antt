use Prim.Native.Nat.{◌+◌}
use Rattle.truth.specs.Truth.{value}
use Rattle.truth.proofs.Testing.{Testing}
use Rattle.numbering.specs.Variables.{line_at}
use Rattle.placement.specs.Placement.{ruled, of_lines}
use Rattle.placed.specs.Held.{puzzle_tried}
use Rattle.placed.proofs.section.test_lines.Given as goal

abbrev pub invariant-loop-l : goal.invariant-loop-l
invariant-loop-l l = Testing (value l.fn.trial.model.now) l.at (of_lines (puzzle_tried l.fn.trial) l.rule l.from l.n) (l.from + l.n) (λ j. ruled l.rule (line_at (puzzle_tried l.fn.trial) j)) l.to l.l
