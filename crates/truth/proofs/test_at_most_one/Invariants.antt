use Rattle.truth.proofs.RowTests.{OnceTesting}
use Rattle.truth.specs.Truth.{value}
use Prim.Native.Nat.{◌-◌}
use Rattle.truth.proofs.test_at_most_one.Given as goal

abbrev pub invariant-loop-i : goal.invariant-loop-i
invariant-loop-i l = OnceTesting (value l.model) l.v l.n l.at l.to l.i

abbrev pub decreases-loop-i : goal.decreases-loop-i
decreases-loop-i l = l.n - l.i
