-- A blocking clause rules out one picture and no other: each row colours equally many cells, so no picture's coloured cells are a part of another's.
use mathlib.Core.Path.{◌≡◌, sym, ap, ◌∙◌}
use mathlib.Core.Logic.{◌↔◌, inl, inr}
use mathlib.Core.Bool.{true, false, true≢false, not-eq-not}
use Prim.Native.Nat.{ℕ, ◌+◌, ◌*◌, ◌<◌}
use native.Mathlib.Omega.{arith}
use lib.Dec.{eqb}
use lib.ListN.{get_or}
use borrow.Author.Tests.{eq-eqb, eqb-true}
use Rattle.lines.proofs.SameCells.{same_cells}
use Rattle.puzzles.specs.Puzzle.{Puzzle, width, height, lines}
use Rattle.puzzles.specs.Good.{Good}
use Rattle.numbering.specs.Variables.{hues, hue, cell_variable, first_cell}
use Rattle.numbering.proofs.Bounds.{first_some}
use Rattle.grids.specs.Grid.{row}
use Rattle.grids.proofs.Cells.{cell_within, row_length, row_cell_lem}
use Rattle.truth.specs.Truth.{Assignment}
use Rattle.pictures.specs.Pictures.{Extends, shown, blocking}
use Rattle.pictures.proofs.EachFamily.{Said}
use Rattle.pictures.proofs.ColorsOfK.{known_hue}
use Rattle.pictures.proofs.TrueClauses.{Holds, some_each_means, some_when_means, no_means}
use Rattle.pictures.proofs.ShownGrid.{each_color, cell_variable_lem, same_grid, shown_is_grid, shown_extends}
use Rattle.pictures.proofs.Pictured.{said_picture}

-- the clause of γ is true where some cell variable is true in γ only
blocking_means : (z : Puzzle) (β γ : Assignment)
    → Holds β (blocking z γ) ↔ ((k : ℕ) × (k < width z * height z * hues z) × ((γ (first_cell z + k) ≡ true) × (β (first_cell z + k) ≡ false)))
unfolding blocking
blocking_means z β γ =
    some_each_means β (width z * height z * hues z) _ (λ k h. some_when_means β (γ (first_cell z + k)) _ (no_means β (first_cell z + k) (omega (arith, first_some z (lines z)))))

module _ (z : Puzzle) (G : Good z) {β γ : Assignment} (S : Said z β) (T : Said z γ) where
  -- each extends the grid that it shows
  E : Extends z (shown z β) β
  E = shown_extends z β S.one_color

  F : Extends z (shown z γ) γ
  F = shown_extends z γ T.one_color

  -- where the clause of γ is true, they show two grids
  pub blocking_differs : Holds β (blocking z γ) → shown z γ ≡ shown z β → ⊥
  blocking_differs b e =
      let (k, h, (t, f)) = (blocking_means z β γ).0 b in
      true≢false (sym t ∙ each_color z (λ v. γ v ≡ β v) (λ x y r i j l. F x y r i j l ∙ ap (λ g. eqb (get_or g (y * width z + x) 0) (hue z r)) e ∙ sym (E x y r i j l)) k h ∙ f)

  -- where each cell variable that is true in γ is true in β, they show one grid
  same_shown : ((x y r : ℕ) → x < width z → y < height z → r < hues z → γ (cell_variable z x y r) ≡ true → β (cell_variable z x y r) ≡ true) → shown z γ ≡ shown z β
  same_shown up =
      same_grid z (shown z γ) (shown z β) (shown_is_grid z γ).cells (shown_is_grid z β).cells (λ x y h k.
      sym (row_cell_lem (width z) (height z) (shown z γ) x y h) ∙ ap (λ l. get_or l x 0) (same_row y k) ∙ row_cell_lem (width z) (height z) (shown z β) x y h)
    where
      same_color : (x y : ℕ) → x < width z → y < height z → 0 < get_or (shown z γ) (y * width z + x) 0 → get_or (shown z β) (y * width z + x) 0 ≡ get_or (shown z γ) (y * width z + x) 0
      same_color x y h k some =
          elim ((shown_is_grid z γ).known (y * width z + x) (rw (shown_is_grid z γ).cells (cell_within (width z) (height z) x y h k))) [
            | inl n ↦ absurd (omega arith)
            | inr c ↦
                let (r, l, e) = known_hue z _ some c in
                let t = up x y r h k l (F x y r h k l ∙ eq-eqb _ (hue z r) (sym e)) in
                eqb-true _ (hue z r) (sym (E x y r h k l) ∙ t) ∙ e
          ]

      same_row : (y : ℕ) → y < height z → row (width z) (shown z γ) y ≡ row (width z) (shown z β) y
      same_row y k =
          let n = row_length (width z) (height z) (shown z γ) y in
          same_cells _ _ (n ∙ sym (row_length (width z) (height z) (shown z β) y))
          ((said_picture z G (shown_is_grid z γ) T F).rows_read y k ∙ sym ((said_picture z G (shown_is_grid z β) S E).rows_read y k))
          (λ t l some.
          let h : t < width z = omega arith in
          let a = row_cell_lem (width z) (height z) (shown z γ) t y h in
          row_cell_lem (width z) (height z) (shown z β) t y h ∙ same_color t y h k (omega arith) ∙ sym a)

  -- and where they show two, it is true
  pub differs_blocking : (shown z γ ≡ shown z β → ⊥) → Holds β (blocking z γ)
  differs_blocking d =
      -- where it is false, no variable is true in γ only
      (not-eq-not {b = true}).0 (λ e.
      d (same_shown (λ x y r h k l t.
      (not-eq-not {b = true}).0 (λ f.
      let (i, j, q) = cell_variable_lem z x y r h k l in
      true≢false (sym ((blocking_means z β γ).1 (i, j, (rw q t, rw q f))) ∙ e)))))
