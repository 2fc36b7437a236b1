-- A grid's puzzle words, section by section, as they are counted and written.
use mathlib.Core.Path.{◌≡◌, ap, subst, ◌∙◌}
use mathlib.Core.List.{List, ◌++◌}
use Prim.Native.Nat.{ℕ, ◌+◌, ◌≤◌, ◌*◌}
use native.Mathlib.Omega.{arith}
use lib.ListN.{length, length-append}
use Rattle.lists.specs.Each.{tab}
use Rattle.lists.specs.Wrote.{Wrote}
use Rattle.lists.proofs.Eaches.{length_tab, tab_same}
use Rattle.lists.proofs.Writing.{wrote_then}
use Rattle.lines.specs.Line.{runs}
use Rattle.runs.proofs.LineCells.{strided_is}
use Rattle.puzzles.specs.Puzzle.{lines_words, cells_words, puzzle_words}
use Rattle.grids.specs.Grid.{row, column, row_clues, column_clues, grid_puzzle, grid_words}
use Rattle.grids.specs.Sized.{Sized, Laid, laid_clues}
use Rattle.grids.specs.Mask.{cells_mask}
use Rattle.grids.proofs.Cells.{sized_most, place_in, place_most}
use Rattle.grids.proofs.ClueSections.{rows_lined, rows_most}
use Rattle.grids.proofs.ColumnWords.{columns_most}
use Rattle.grids.proofs.GridColors.{mask_is}

cells_length : (n mask : ℕ) → length (cells_words (tab n (λ _. mask))) ≡ 1 + n
unfolding cells_words
cells_length n mask = omega (arith, length_tab n (λ _. mask))

module _ {w h : ℕ} {grid : List ℕ} (S : Sized w h grid) where
  -- the lines, as they are written
  pub columns_laid : Laid w 1 w h grid
  columns_laid = record {
    few = S.width_most;
    starts = λ x l. omega (arith, S.width_most);
    lines = λ x l. record { few = S.height_most; small = sized_most S; inside = λ y k. omega (arith, place_in S {x = x} {y = y} l k) };
  }

  pub rows_laid : Laid h w 1 w grid
  rows_laid = record {
    few = S.height_most;
    starts = λ y l. omega (arith, place_most S {x = 0} {y = y} S.width_some l);
    lines = λ y l. record { few = S.width_most; small = sized_most S; inside = λ x k. omega (arith, place_in S {x = x} {y = y} k l) };
  }

  columns_clues : laid_clues w 1 w h grid ≡ column_clues w h grid
  unfolding laid_clues column_clues column
  columns_clues = tab_same w _ _ (λ x i. ap runs (strided_is (x * 1) w h grid (λ y. y * w + x) (λ y j. omega arith)))

  rows_clues : laid_clues h w 1 w grid ≡ row_clues w h grid
  unfolding laid_clues row_clues row
  rows_clues = tab_same h _ _ (λ y j. ap runs (strided_is (y * w) 1 w grid (λ x. y * w + x) (λ x i. omega arith)))

  -- the sections, as they are written
  grid_words_lem : grid_words w h grid ≡ lines_words (laid_clues w 1 w h grid) ++ (lines_words (laid_clues h w 1 w grid) ++ cells_words (tab (length grid) (λ _. cells_mask grid)))
  unfolding grid_words grid_puzzle puzzle_words
  grid_words_lem = rw (columns_clues, rows_clues, S.cells, mask_is S)

  grid_length : length (grid_words w h grid) ≡ length (lines_words (laid_clues w 1 w h grid)) + length (lines_words (laid_clues h w 1 w grid)) + 1 + length grid
  grid_length = ap length grid_words_lem
      ∙ omega (
        arith,
        length-append (lines_words (laid_clues w 1 w h grid)) (lines_words (laid_clues h w 1 w grid) ++ cells_words (tab (length grid) (λ _. cells_mask grid))),
        length-append (lines_words (laid_clues h w 1 w grid)) (cells_words (tab (length grid) (λ _. cells_mask grid))),
        cells_length (length grid) (cells_mask grid),
      )

  -- and as they are counted
  pub grid_words_length : length (grid_words w h grid) ≡ length (lines_words (column_clues w h grid)) + length (lines_words (row_clues w h grid)) + 1 + length grid
  grid_words_length = rw (columns_clues, rows_clues) at grid_length

  pub grid_words_most : length (lines_words (column_clues w h grid)) + length (lines_words (row_clues w h grid)) + 1 + length grid ≤ 20611
  grid_words_most = omega (arith, columns_most S, rows_most h w grid (rows_lined S), sized_most S)

  -- one after another
  module _ (out : List ℕ) (r : length (grid_words w h grid) ≤ length out) where
    pub columns_room : 0 + length (lines_words (laid_clues w 1 w h grid)) ≤ length out
    columns_room = omega (arith, grid_length)

    module _ {out₁ : List ℕ} {rows : ℕ} (a : Wrote (lines_words (laid_clues w 1 w h grid)) out 0 out₁ rows) (k : length out₁ ≡ length out) where
      pub rows_room : rows + length (lines_words (laid_clues h w 1 w grid)) ≤ length out₁
      rows_room = omega (arith, a.next_is, grid_length)

      module _ {out₂ : List ℕ} {cells : ℕ} (b : Wrote (lines_words (laid_clues h w 1 w grid)) out₁ rows out₂ cells) where
        pub cells_room : length out₂ ≡ length out → cells + 1 + length grid ≤ length out₂
        cells_room e = omega (arith, a.next_is, b.next_is, grid_length)

        pub grid_wrote : {mask : ℕ} → mask ≡ cells_mask grid → {out₃ : List ℕ} {used : ℕ} → Wrote (cells_words (tab (length grid) (λ _. mask))) out₂ cells out₃ used
            → Wrote (grid_words w h grid) out 0 out₃ used
        grid_wrote m {out₃} {used} c =
            rw grid_words_lem
            (wrote_then (omega arith) a
            (wrote_then (omega (arith, rows_room)) b
            (subst (λ mask. Wrote (cells_words (tab (length grid) (λ _. mask))) out₂ cells out₃ used) m c)))
