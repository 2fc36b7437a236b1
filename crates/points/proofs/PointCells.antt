-- The cells of families 9 and 10 in their order, by the numbers of the board.
use mathlib.Core.Path.{◌≡◌, sym, ◌∙◌}
use mathlib.Core.List.{List}
use Prim.Native.Nat.{ℕ, zero, suc, ◌+◌, ◌-◌, ◌*◌, ◌≤◌, ◌<◌}
use native.Mathlib.Omega.{arith}
use native.Mathlib.Nat.{add-zero, zero-mul, suc-mul, mul_comm}
use lib.IntN.{ℤ}
use lib.ListN.{length, take, drop, get_or}
use Rattle.lists.specs.Each.{each}
use Rattle.lists.specs.Wrote.{Wrote}
use Rattle.lists.proofs.Eaches.{each_plus, each_same}
use Rattle.lists.proofs.Emitting.{Emitting}
use Rattle.literals.specs.Literals.{largest}
use Rattle.sections.specs.Sections.{clauses_words, at_most_one}
use Rattle.sections.proofs.ClauseLists.{say_first, say_done}
use Rattle.puzzles.specs.Puzzle.{Puzzle, width, height, lines}
use Rattle.puzzles.specs.Checks.{puzzle}
use Rattle.puzzles.specs.Firsts.{first_at}
use Rattle.boards.proofs.Boards.{masks_within, masks_part}
use Rattle.boards.specs.declared.board.Board.{Board}
use Rattle.numbering.specs.Variables.{hues, hue, cell_first, variables}
use Rattle.numbering.proofs.Bounds.{cell_least, variables_most}
use Rattle.cells.specs.Cells.{by_column, point_once, precomputed, precomputed_cells}
use Rattle.cells.specs.Given.{Shows}
use Rattle.cells.proofs.BoardCells.{cell_at, cell_is}
use Rattle.points.specs.Points.{Masked, column_once, of_mask, of_masks}

-- ---- 9

module _ (board : Board) (k x : ℕ) where
  pub once_first : (out : List ℤ) (at : ℕ) → at + length (clauses_words (column_once board k x)) ≤ length out → Emitting board.height (λ y. clauses_words (at_most_one (cell_at board k x y) k)) out at out at 0
  unfolding column_once
  once_first out at h = say_first board.height _ out at h

  pub once_done : {out₀ out : List ℤ} {at₀ at y : ℕ} → Emitting board.height (λ y. clauses_words (at_most_one (cell_at board k x y) k)) out₀ at₀ out at y → board.height ≤ y → Wrote (clauses_words (column_once board k x)) out₀ at₀ out at
  unfolding column_once
  once_done E h = say_done board.height _ E h

pub columns_once : {board : Board} {k : ℕ} {z : Puzzle} → Shows board k z → point_once z ≡ each board.width (column_once board k)
unfolding by_column column_once
columns_once {board} {k} {z} S =
    rw (← S.stands.width_is, ← S.stands.height_is, ← S.hues_are) (each_same board.width _ _ (λ x h. each_same board.height _ _ (λ y l. rw (cell_is S x y))))

pub once_same : {board : Board} {k : ℕ} {z z' : Puzzle} → Shows board k z → Shows board k z' → point_once z ≡ point_once z'
once_same S S' = columns_once S ∙ sym (columns_once S')

-- ---- 10

module _ (palette : List ℕ) (mask v : ℕ) where
  pub mask_first : (out : List ℤ) (at : ℕ) → at + length (clauses_words (of_mask palette mask v)) ≤ length out → Emitting (length palette) (λ r. clauses_words (precomputed mask (get_or palette r 0) (v + r))) out at out at 0
  unfolding of_mask
  mask_first out at h = say_first (length palette) _ out at h

  pub mask_done : {out₀ out : List ℤ} {at₀ at r : ℕ} → Emitting (length palette) (λ r. clauses_words (precomputed mask (get_or palette r 0) (v + r))) out₀ at₀ out at r → length palette ≤ r → Wrote (clauses_words (of_mask palette mask v)) out₀ at₀ out at
  unfolding of_mask
  mask_done E h = say_done (length palette) _ E h

module _ (palette masks : List ℕ) (v : ℕ) where
  pub masks_first : (out : List ℤ) (at : ℕ) → at + length (clauses_words (of_masks palette masks v)) ≤ length out → Emitting (length masks) (λ i. clauses_words (of_mask palette (get_or masks i 0) (v + i * length palette))) out at out at 0
  unfolding of_masks
  masks_first out at h = say_first (length masks) _ out at h

  pub masks_done : {out₀ out : List ℤ} {at₀ at i : ℕ} → Emitting (length masks) (λ i. clauses_words (of_mask palette (get_or masks i 0) (v + i * length palette))) out₀ at₀ out at i → length masks ≤ i → Wrote (clauses_words (of_masks palette masks v)) out₀ at₀ out at
  unfolding of_masks
  masks_done E h = say_done (length masks) _ E h

-- rows of m, one after another, are one row
each_rows : {A : Type 0} (n m : ℕ) (f : ℕ → List A) → each n (λ i. each m (λ j. f (i * m + j))) ≡ each (n * m) f
unfolding each
each_rows zero m f = rw (zero-mul m)
each_rows (suc n) m f = rw (suc-mul n m, each_plus (n * m) m f, each_rows n m f)

module _ {ws : List ℕ} {board : Board} {palette : List ℕ} (M : Masked ws board palette) where
  pub cells_within : board.cells < length ws
  cells_within = masks_within ws M.sectioned M.stands.cells_is

  pub masks_are : take (length ws - (board.cells + 1)) (drop (board.cells + 1) ws) ≡ (puzzle ws).masks
  masks_are = masks_part ws M.sectioned M.stands.cells_is

  pub rows_are : precomputed_cells (puzzle ws) ≡ of_masks palette (take (length ws - (board.cells + 1)) (drop (board.cells + 1) ws)) board.first
  unfolding precomputed_cells of_masks of_mask cell_first
  rows_are =
      let z = puzzle ws in
      rw (masks_are, M.good.area, mul_comm (width z) (height z), M.palette_is, M.stands.first_is)
      (each_rows (height z) (width z) (λ i. each (hues z) (λ r. precomputed (get_or z.masks i 0) (hue z r) (first_at z (lines z) + i * hues z + r))))

  pub masks_variables : (0 < board.first) × (board.first + length (take (length ws - (board.cells + 1)) (drop (board.cells + 1) ws)) * length palette ≤ largest + 1)
  unfolding variables cell_first
  masks_variables =
      let z = puzzle ws in
      let some = rw (zero-mul, add-zero, zero-mul, add-zero) at (cell_least z M.good 0 0 M.good.width_some M.good.height_some) in
      rw (M.stands.first_is, masks_are, M.good.area, M.palette_is) (some, omega (arith, some, variables_most z M.good))
