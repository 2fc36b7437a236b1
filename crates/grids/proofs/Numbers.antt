-- Numbers that a grid is never refused with.
use mathlib.Core.Path.{◌≡◌}
use mathlib.Core.Bool.{not}
use mathlib.Core.List.{List}
use Prim.Native.Nat.{ℕ, ◌*◌}
use lib.Dec.{eqb}
use lib.ListN.{length}
use Rattle.refusals.specs.Stops.{Never}
use Rattle.refusals.proofs.Never.{accepted_never, refuse_never, then_never}
use Rattle.lines.specs.Calls.{off_size}
use Rattle.lines.proofs.Numbers.{bytes_never}
use Rattle.grids.specs.Grid.{size_checks, grid_checks}

module _ (m : ℕ) (two : m ≡ 2 → ⊥) (seven : m ≡ 7 → ⊥) (w h : ℕ) (grid : List ℕ) where
  pub size_never : Never m (size_checks w h grid)
  unfolding size_checks
  size_never = refuse_never m (refuse_never m (refuse_never m (accepted_never m) (not (eqb (length grid) (w * h))) (length grid) seven) (off_size h) 1 two) (off_size w) 0 two

  pub grid_never : (m ≡ 18 → ⊥) → Never m (grid_checks w h grid)
  unfolding grid_checks
  grid_never e = then_never m (bytes_never m e grid) (size_checks w h grid) size_never
