use Prim.Native.Nat.{◌+◌, ◌*◌}
use lib.ListN.{length, get_or}
use Rattle.truth.specs.Truth.{value}
use Rattle.truth.proofs.Testing.{Testing}
use Rattle.points.specs.Points.{of_mask, of_masks}
use Rattle.pointed.proofs.precomputed.test_masks.Given as goal

abbrev pub invariant-loop-i : goal.invariant-loop-i
invariant-loop-i l = Testing (value l.model) l.at (of_masks l.palette l.masks l.v) (length l.masks) (λ j. of_mask l.palette (get_or l.masks j 0) (l.v + j * length l.palette)) l.to l.i
