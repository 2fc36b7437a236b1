-- What the ghost field of `Grid` says has one proof at most, as a ghost field asks.
use Rattle.std.specs.Prelude.{List, ℕ}
use Rattle.std.proofs.Props.{props}
use Rattle.grids.specs.Sized.{Sized}

pub sized_prop : (w h : ℕ) (grid : List ℕ) → IsProp (Sized w h grid)
sized_prop w h grid = hlevel props
