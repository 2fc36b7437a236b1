use Prim.Native.Nat.{◌+◌}
use Rattle.lists.proofs.Emitting.{EmittingFrom}
use Rattle.sections.specs.Sections.{clauses_words}
use Rattle.numbering.specs.Held.{puzzle_in}
use Rattle.numbering.specs.Variables.{line_at}
use Rattle.placement.specs.Placement.{ruled}
use Rattle.placement.proofs.section.write_lines.Given as goal

abbrev pub invariant-loop-l : goal.invariant-loop-l
invariant-loop-l l = EmittingFrom l.from (l.from + l.n) (λ j. clauses_words (ruled l.rule (line_at (puzzle_in l.lines) j))) l.initial.out 1 l.out l.to l.l
