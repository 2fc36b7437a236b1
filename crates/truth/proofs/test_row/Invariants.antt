use Rattle.truth.proofs.RowTests.{RowTesting}
use Rattle.truth.specs.Truth.{value}
use Prim.Native.Nat.{◌-◌}
use Rattle.truth.proofs.test_row.Given as goal

abbrev pub invariant-loop-j : goal.invariant-loop-j
invariant-loop-j l = RowTesting (value l.model) l.x l.y l.n l.at l.j

abbrev pub decreases-loop-j : goal.decreases-loop-j
decreases-loop-j l = l.n - l.j
