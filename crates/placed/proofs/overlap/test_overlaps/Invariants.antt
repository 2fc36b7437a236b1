use Rattle.truth.specs.Truth.{value}
use Rattle.truth.proofs.Testing.{Testing}
use Rattle.numbering.specs.Variables.{many}
use Rattle.numbering.specs.Held.{line_in}
use Rattle.placement.specs.Placement.{non_overlap}
use Rattle.placement.specs.PairRows.{later_pairs}
use Rattle.placed.proofs.overlap.test_overlaps.Given as goal

abbrev pub invariant-loop-a : goal.invariant-loop-a
invariant-loop-a l = Testing (value l.fn.trial.model.now) l.at (non_overlap (line_in l.fn.trial.line)) (many (line_in l.fn.trial.line)) (later_pairs (line_in l.fn.trial.line)) l.to l.a
