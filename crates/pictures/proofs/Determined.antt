-- The cell variables determine all others.
use mathlib.Core.Path.{◌≡◌, sym, ◌∙◌}
use Prim.Native.Nat.{ℕ, ◌+◌, ◌-◌, ◌≤◌, ◌<◌}
use native.Mathlib.Omega.{arith}
use native.Mathlib.Decide.{dec_lt}
use lib.ListN.{length}
use Rattle.puzzles.specs.Puzzle.{Puzzle, width, height, lines, clue_at}
use Rattle.puzzles.specs.Good.{Good}
use Rattle.numbering.specs.Variables.{line_at, variable, hues, cell_variable, variables}
use Rattle.numbering.specs.Names.{Name, position, cell, IsName, numbered}
use Rattle.numbering.proofs.OneToOne.{numbered_all}
use Rattle.truth.specs.Truth.{Assignment}
use Rattle.pictures.specs.Pictures.{Extends, shown}
use Rattle.pictures.proofs.EachFamily.{Said}
use Rattle.pictures.proofs.LineReads.{said_once}
use Rattle.pictures.proofs.ShownGrid.{shown_is_grid, shown_extends}
use Rattle.pictures.proofs.Pictured.{column_cells, row_cells, column_said, row_said}

module _ (z : Puzzle) (G : Good z) {β γ : Assignment} (S : Said z β) (T : Said z γ)
    (same : (x y r : ℕ) → x < width z → y < height z → r < hues z → β (cell_variable z x y r) ≡ γ (cell_variable z x y r)) where
  -- both extend the grid of the first
  E : Extends z (shown z β) β
  E = shown_extends z β S.one_color

  F : Extends z (shown z β) γ
  F x y r h k l = sym (same x y r h k l) ∙ E x y r h k l

  -- so they have the same positions
  same_position : (l b i : ℕ) → l < lines z → b < length (clue_at z l) → i < (line_at z l).positions → β (variable (line_at z l) b i) ≡ γ (variable (line_at z l) b i)
  same_position l b i h k j = elim (dec_lt l (width z)) [
    | yes c ↦
        let Q = shown_is_grid z β in
        said_once z G l h (column_said z S l c) (column_cells z Q E l c) (column_said z T l c) (column_cells z Q F l c) b i k j
    | no c ↦
        let Q = shown_is_grid z β in
        let y = l - width z in
        let y-in : y < height z = omega arith in
        let e : l ≡ width z + y = omega arith in
        rw e (said_once z G (width z + y) (omega arith) (row_said z S y y-in) (row_cells z Q E y y-in) (row_said z T y y-in) (row_cells z Q F y y-in) b i (rw e at k) (rw e at j))
  ]

  pub same_everywhere : (v : ℕ) → 0 < v → v ≤ variables z → β v ≡ γ v
  same_everywhere v h k = let (n, i, e) = numbered_all z v h k in rw (← e) (same_name n i)
    where
      same_name : (n : Name) → IsName z n → β (numbered z n) ≡ γ (numbered z n)
      same_name (position l b i) (h, k, j) = unfold line_at in same_position l b i h k j
      same_name (cell x y r) (h, k, l) = same x y r h k l
