use Prim.Native.Nat.{◌<◌}
use Rattle.truth.specs.Truth.{value}
use Rattle.truth.proofs.Testing.{Testing}
use Rattle.numbering.specs.Variables.{many}
use Rattle.numbering.specs.Held.{line_in}
use Rattle.placement.specs.Placement.{conflicts}
use Rattle.placement.specs.PairRows.{later_pairs}
use Rattle.placed.proofs.overlap.test_later.Given as goal

abbrev pub invariant-loop-b : goal.invariant-loop-b
invariant-loop-b l = (l.a < l.b) × Testing (value l.fn.trial.model.now) l.at (later_pairs (line_in l.fn.trial.line) l.a) (many (line_in l.fn.trial.line)) (conflicts (line_in l.fn.trial.line) l.a) l.to l.b
