-- The grid that an assignment shows: where no cell has two colours, it is the one grid that the assignment extends.
use mathlib.Core.Path.{◌≡◌, refl, sym, subst, ◌∙◌}
use mathlib.Core.Logic.{◌⊎◌, inl, inr}
use mathlib.Core.Bool.{Bool, true, false, true≢false, cond}
use mathlib.Core.List.{List, [], ◌∷◌}
use Prim.Native.Nat.{ℕ, zero, suc, ◌+◌, ◌*◌, ◌/◌, ◌%◌, ◌<◌}
use native.Mathlib.Omega.{arith}
use native.Mathlib.Nat.{mul_comm, mul-zero, mod-lt, div-lt_iff_lt-mul, div-add-mod'}
use native.Mathlib.Decide.{dec_lt}
use lib.Dec.{eqb}
use lib.ListN.{length, get_or}
use lib.Seq.{ext_get_or}
use borrow.Author.Tests.{eq-eqb, eqb-true}
use Rattle.lists.proofs.Tests.{same_tests}
use Rattle.lists.proofs.Eaches.{length_tab, get_or_tab}
use Rattle.lists.proofs.Parts.{place_within}
use Rattle.puzzles.specs.Puzzle.{Puzzle, width, height}
use Rattle.puzzles.specs.Checks.{colors}
use Rattle.numbering.specs.Variables.{palette, hues, hue, cell_first, cell_variable, first_cell}
use Rattle.grids.proofs.Cells.{cell_within}
use Rattle.truth.specs.Truth.{Assignment}
use Rattle.pictures.specs.Meaning.{OneColor}
use Rattle.pictures.specs.Pictures.{IsColor, Grid, Extends, color_of, shown}
use Rattle.pictures.proofs.ColorsOfK.{hue_known, hue_once, same_color}

-- ---- cells by column and row

module _ (z : Puzzle) where
  -- what holds of each column and row holds of each cell
  pub each_cell : (P : ℕ → Type 0) → ((x y : ℕ) → x < width z → y < height z → P (y * width z + x)) → (i : ℕ) → i < width z * height z → P i
  each_cell P e i h = elim (dec_lt 0 (width z)) [
    | yes s ↦
        let k : i < height z * width z = omega (arith, mul_comm (height z) (width z)) in
        subst P (div-add-mod' i (width z)) (e (i % width z) (i / width z) (mod-lt i s) ((div-lt_iff_lt-mul s).1 k))
    | no s ↦
        let n : width z ≡ 0 = omega arith in
        let k : i < 0 * height z = rw n at h in
        absurd (omega arith)
  ]

  -- and what holds of each column, row and colour holds of each cell variable
  pub each_color : (P : ℕ → Type 0) → ((x y r : ℕ) → x < width z → y < height z → r < hues z → P (cell_variable z x y r)) → (k : ℕ) → k < width z * height z * hues z → P (first_cell z + k)
  unfolding cell_first
  each_color P e k h = elim (dec_lt 0 (hues z)) [
    | yes s ↦
        let q : first_cell z + k / hues z * hues z + k % hues z ≡ first_cell z + k = omega (arith, div-add-mod' k (hues z)) in
        subst P q (each_cell (λ i. P (first_cell z + i * hues z + k % hues z)) (λ x y i j. e x y (k % hues z) i j (mod-lt k s)) (k / hues z) ((div-lt_iff_lt-mul s).1 h))
    | no s ↦
        let n : hues z ≡ 0 = omega arith in
        let l : k < width z * height z * 0 = rw n at h in
        absurd (omega (arith, mul-zero (width z * height z)))
  ]

  pub cell_variable_lem : (x y r : ℕ) → x < width z → y < height z → r < hues z → (k : ℕ) × (k < width z * height z * hues z) × (first_cell z + k ≡ cell_variable z x y r)
  unfolding cell_first
  cell_variable_lem x y r h k l =
      let c = y * width z + x in
      (c * hues z + r, place_within (width z * height z) (hues z) c r (cell_within (width z) (height z) x y h k) l, omega arith)

  -- grids with the same cells are equal
  pub same_grid : (grid other : List ℕ) → length grid ≡ width z * height z → length other ≡ width z * height z
      → ((x y : ℕ) → x < width z → y < height z → get_or grid (y * width z + x) 0 ≡ get_or other (y * width z + x) 0) → grid ≡ other
  same_grid grid other m n e = ext_get_or 0 grid other (m ∙ sym n) (λ i h. each_cell (λ i. get_or grid i 0 ≡ get_or other i 0) e i (rw m at h))

-- ---- the colour of a cell

module _ (β : Assignment) where
  -- a true one that none before it is
  color_first : (v : ℕ) (cs : List ℕ) (r : ℕ) → r < length cs → β (v + r) ≡ true → ((s : ℕ) → s < r → β (v + s) ≡ true → ⊥) → color_of β v cs ≡ get_or cs r 0
  unfolding color_of
  color_first v [] r h e n = absurd (omega arith)
  color_first v (c ∷ cs) zero h e n =
      let q : v + 0 ≡ v = omega arith in
      let t : β v ≡ true = rw q at e in
      rw t
  color_first v (c ∷ cs) (suc r) h e n =
      let up : (s : ℕ) → v + suc s ≡ suc v + s = λ s. omega arith in
      let q : v + 0 ≡ v = omega arith in
      let f : β v ≡ false = same_tests _ _ (λ t. absurd (n 0 (omega arith) (rw q t))) (λ t. absurd (true≢false (sym t))) in
      rw f (color_first (suc v) cs r (omega arith) (rw (up r) at e) (λ s k t. n (suc s) (omega arith) (rw (up s) t)))

  -- it is one of a true variable, or blank
  color_true : (v : ℕ) (cs : List ℕ) → (color_of β v cs ≡ 0) ⊎ ((r : ℕ) × (r < length cs) × (β (v + r) ≡ true) × (get_or cs r 0 ≡ color_of β v cs))
  unfolding color_of
  color_true v [] = inl refl
  color_true v (c ∷ cs) = go (β v) refl (color_true (suc v) cs)
    where
      go : (b : Bool) → β v ≡ b → (color_of β (suc v) cs ≡ 0) ⊎ ((r : ℕ) × (r < length cs) × (β (suc v + r) ≡ true) × (get_or cs r 0 ≡ color_of β (suc v) cs))
          → (cond b c (color_of β (suc v) cs) ≡ 0) ⊎ ((r : ℕ) × (r < suc (length cs)) × (β (v + r) ≡ true) × (get_or (c ∷ cs) r 0 ≡ cond b c (color_of β (suc v) cs)))
      go true e t = let q : v + 0 ≡ v = omega arith in inr (0, omega arith, rw q e, refl)
      go false e (inl n) = inl n
      go false e (inr (r, h, t, q)) = let u : v + suc r ≡ suc v + r = omega arith in inr (suc r, omega arith, rw u t, q)

-- ---- the grid

module _ (z : Puzzle) (β : Assignment) where
  shown_length : length (shown z β) ≡ width z * height z
  unfolding shown
  shown_length = length_tab (width z * height z) _

  shown_cell : (x y : ℕ) → x < width z → y < height z → get_or (shown z β) (y * width z + x) 0 ≡ color_of β (cell_first z x y) (palette (colors z))
  unfolding shown cell_first
  shown_cell x y h k = get_or_tab {A = ℕ} (width z * height z) _ 0 (y * width z + x) (cell_within (width z) (height z) x y h k)

  color_known : (v : ℕ) → IsColor z (color_of β v (palette (colors z)))
  color_known v = elim (color_true β v (palette (colors z))) [
    | inl n ↦ inl n
    | inr t ↦ inr (rw (← t.3) (hue_known z t.0 t.1).1)
  ]

  pub shown_is_grid : Grid z (shown z β)
  shown_is_grid = record {
    cells = shown_length;
    known = λ i h. each_cell z (λ i. IsColor z (get_or (shown z β) i 0)) (λ x y j k. rw (shown_cell x y j k) (color_known _)) i (rw shown_length at h);
  }

  module _ (one : OneColor z β) where
    pub shown_extends : Extends z (shown z β) β
    shown_extends x y r h k l = rw (shown_cell x y h k) (same_tests _ _ to from)
      where
        to : β (cell_first z x y + r) ≡ true → eqb (color_of β (cell_first z x y) (palette (colors z))) (hue z r) ≡ true
        to e = eq-eqb _ (hue z r) (color_first β (cell_first z x y) (palette (colors z)) r l e (λ s m t. one x y s r h k m l t e))

        from : eqb (color_of β (cell_first z x y) (palette (colors z))) (hue z r) ≡ true → β (cell_first z x y + r) ≡ true
        from e =
            let q = eqb-true _ (hue z r) e in
            elim (color_true β (cell_first z x y) (palette (colors z))) [
              | inl n ↦ absurd (omega (arith, (hue_known z r l).0))
              | inr t ↦ subst (λ (s : ℕ). β (cell_first z x y + s) ≡ true) (hue_once z t.0 r t.1 l (t.3 ∙ q)) t.2
            ]

    -- and no other
    pub extends_shown : (grid : List ℕ) → Grid z grid → Extends z grid β → shown z β ≡ grid
    extends_shown grid G e =
        same_grid z (shown z β) grid shown_length G.cells (λ x y h k.
        let known : (i : ℕ) → i < width z * height z → IsColor z (get_or grid i 0) = λ i j. G.known i (rw G.cells j) in
        let i = cell_within (width z) (height z) x y h k in
        same_color z _ _ (shown_is_grid.known (y * width z + x) (rw shown_length i)) (known (y * width z + x) i)
        (λ r l. sym (shown_extends x y r h k l) ∙ e x y r h k l))
