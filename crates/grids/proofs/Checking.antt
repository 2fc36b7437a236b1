-- What the checks of a grid give, by the way that they go; and what holds of a grid that they accept.
use mathlib.Core.Path.{◌≡◌}
use mathlib.Core.Bool.{true, false, not}
use mathlib.Core.List.{List}
use Prim.Native.Nat.{ℕ, ◌*◌}
use lib.ListN.{length, get_or}
use lib.Dec.{eqb, ltb}
use borrow.Author.Tests.{eq-eqb, ne_eqb, eqb-true, ltb-false, not-false}
use Rattle.refusals.specs.Verdict.{passed, refused}
use Rattle.refusals.specs.Told.{refusal}
use Rattle.refusals.specs.declared.Refusal.{Refusal}
use Rattle.refusals.proofs.Answering.{handed_up, refuse_accepted, then_accepted, first_accepted}
use Rattle.refusals.proofs.Offending.{none_off}
use Rattle.lines.specs.Calls.{off_size, byte_checks}
use Rattle.lines.proofs.Checks.{size_within}
use Rattle.puzzles.proofs.Accepting.{size_some}
use Rattle.grids.specs.Grid.{size_checks, grid_checks}
use Rattle.grids.specs.Mask.{Colored}
use Rattle.grids.specs.Sized.{Sized}

module _ (w h : ℕ) (grid : List ℕ) where
  pub width_refused : off_size w ≡ true → refused 2 0 ≡ size_checks w h grid
  unfolding size_checks
  width_refused e = rw e

  module _ (a : off_size w ≡ false) where
    pub height_refused : off_size h ≡ true → refused 2 1 ≡ size_checks w h grid
    unfolding size_checks
    height_refused e = rw (a, e)

    module _ (b : off_size h ≡ false) where
      pub count_refused : (length grid ≡ w * h → ⊥) → refused 7 (length grid) ≡ size_checks w h grid
      unfolding size_checks
      count_refused n = rw (a, b, ne_eqb _ _ n)

      pub size_accepted : length grid ≡ w * h → passed ≡ size_checks w h grid
      unfolding size_checks
      size_accepted e = rw (a, b, eq-eqb _ _ e)

-- what the check looks for at the size
pub ruleset sizing = (width_refused, height_refused, count_refused, size_accepted)

module _ {w h : ℕ} {grid : List ℕ} where
  pub size_ok : passed ≡ size_checks w h grid → Sized w h grid
  unfolding size_checks
  size_ok e =
      let a = refuse_accepted (off_size w) _ _ _ e in
      let b = refuse_accepted (off_size h) _ _ _ a.1 in
      let c = refuse_accepted (not (eqb (length grid) (w * h))) _ _ _ b.1 in
      record {
        width_some = size_some w a.0;
        width_most = size_within w a.0;
        height_some = size_some h b.0;
        height_most = size_within h b.0;
        cells = eqb-true _ _ (not-false _ c.0);
      }

-- ---- the bytes come after

module _ (w h : ℕ) (grid : List ℕ) where
  pub size_handed : (why : Refusal) → refusal why ≡ size_checks w h grid → refusal why ≡ grid_checks w h grid
  unfolding grid_checks
  size_handed why e = handed_up why e _

  pub size_passed : passed ≡ size_checks w h grid → byte_checks grid ≡ grid_checks w h grid
  unfolding grid_checks
  size_passed e = rw (← e)

  module _ (e : passed ≡ grid_checks w h grid) where
    pub grid_sized : Sized w h grid
    unfolding grid_checks
    grid_sized = size_ok (first_accepted (size_checks w h grid) _ e)

    pub grid_bytes : passed ≡ byte_checks grid
    unfolding grid_checks
    grid_bytes = then_accepted (size_checks w h grid) _ e

    pub grid_colored : Colored grid
    grid_colored = record { low = λ i l. ltb-false 31 (get_or grid i 0) (none_off 0 (ltb 31) 18 0 grid grid_bytes i l) }
