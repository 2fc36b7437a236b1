-- A grid that `read_grid` accepts is a picture of the words that it writes.
use mathlib.Core.Path.{◌≡◌, refl, sym, ap₂, ◌∙◌}
use mathlib.Core.Bool.{Bool, true, false, cond, or-true}
use mathlib.Core.List.{List}
use mathlib.Core.Logic.{inl, inr, ⊎_elim}
use Prim.Native.Nat.{ℕ, ◌*◌, ◌<◌}
use native.Mathlib.Omega.{arith}
use native.Mathlib.Decide.{ℕ_discrete}
use lib.ListN.{length, get_or}
use Rattle.refusals.specs.Verdict.{passed}
use Rattle.bits.specs.Bits.{bit, with_bit, solved}
use Rattle.bits.proofs.SetBits.{with_same, with_keeps}
use Rattle.puzzles.specs.Checks.{colors}
use Rattle.grids.specs.Grid.{grid_puzzle, grid_checks}
use Rattle.grids.specs.Sized.{Sized}
use Rattle.grids.proofs.Checking.{grid_sized}
use Rattle.grids.proofs.GridColors.{rows_at}
use Rattle.grids.proofs.Accepted.{columns_at, width_is, height_is, mask_at_lem, known, grid_accepted, grid_read}
use Rattle.pictures.specs.Pictures.{IsColor, Grid, permits, obeys, Picture, GridsRead}

-- a colour whose bit the mask has obeys it, solved or not
obeys_bit : (mask c : ℕ) → bit mask c ≡ true → obeys mask c ≡ true
unfolding obeys permits
obeys_bit mask c e = rw (e, or-true) (either (solved mask))
  where
    either : (b : Bool) → cond b true true ≡ true
    either true = refl
    either false = refl

module _ (w h : ℕ) (grid : List ℕ) (e : passed ≡ grid_checks w h grid) where
  S : Sized w h grid
  S = grid_sized w h grid e

  -- each cell is blank or has a colour of K
  color_known : (i : ℕ) → i < length grid → IsColor (grid_puzzle w h grid) (get_or grid i 0)
  color_known i l = elim (ℕ_discrete (get_or grid i 0) 0) [
    | yes z ↦ inl z
    | no z ↦ inr (known w h grid e (omega arith) (record { cell = i; within = l; color_is = refl }))
  ]

  -- and the mask of all cells has that bit
  color_masked : (c : ℕ) → IsColor (grid_puzzle w h grid) c → bit (with_bit (colors (grid_puzzle w h grid)) 0) c ≡ true
  color_masked c = ⊎_elim (λ z. rw z (with_same _ 0 (omega arith))) (with_keeps _ 0 c)

  grid_of : Grid (grid_puzzle w h grid) grid
  grid_of = record { cells = S.cells ∙ sym (ap₂ ◌*◌ (width_is w h grid) (height_is w h grid)); known = color_known }

  picture_of : Picture (grid_puzzle w h grid) grid
  unfolding grid_puzzle
  picture_of = record {
    columns_read = λ x i. rw (width_is w h grid, height_is w h grid) (sym (columns_at w h grid x (omega (arith, width_is w h grid))));
    rows_read = λ y j. rw (width_is w h grid) (sym (rows_at w h grid y (omega (arith, height_is w h grid))));
    masks_obeyed = λ i l. rw (mask_at_lem w h grid e i (omega (arith, S.cells))) (obeys_bit _ _ (color_masked _ (color_known i l)));
  }

pub grids_read : GridsRead
grids_read w h grid e = (
  grid_accepted w h grid e,
  rw (grid_read w h grid e) (grid_of w h grid e),
  rw (grid_read w h grid e) (picture_of w h grid e),
)
