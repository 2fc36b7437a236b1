use Prim.Native.Nat.{◌+◌}
use lib.ListN.{length, get_or}
use Rattle.truth.specs.Truth.{value}
use Rattle.truth.proofs.Testing.{Testing}
use Rattle.cells.specs.Cells.{precomputed}
use Rattle.points.specs.Points.{of_mask}
use Rattle.pointed.proofs.precomputed.test_cell.Given as goal

abbrev pub invariant-loop-r : goal.invariant-loop-r
invariant-loop-r l = Testing (value l.model) l.at (of_mask l.palette l.mask l.v) (length l.palette) (λ k. precomputed l.mask (get_or l.palette k 0) (l.v + k)) l.to l.r
