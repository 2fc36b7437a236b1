-- The puzzle of an accepted grid is good, so what `read_grid` writes is accepted as a puzzle.
use mathlib.Core.Path.{◌≡◌, refl, sym, ap, ap₂, subst, ◌∙◌}
use mathlib.Core.Bool.{true, false, and-false}
use mathlib.Core.List.{List, []}
use Prim.Native.Nat.{ℕ, ◌+◌, ◌-◌, ◌*◌, ◌≤◌, ◌<◌}
use native.Mathlib.Omega.{arith}
use native.Mathlib.Decide.{dec_lt}
use lib.Bits.{and_self}
use lib.ListN.{length, get_or}
use borrow.Author.Tests.{ne_eqb}
use Rattle.lists.proofs.Eaches.{length_tab, get_or_tab}
use Rattle.refusals.specs.Verdict.{passed}
use Rattle.bits.specs.Bits.{bit, with_bit, solved}
use Rattle.bits.proofs.SetBits.{bit_some, with_same, with_zero}
use Rattle.lines.specs.Line.{runs}
use Rattle.lines.specs.Arrangement.{Proper, block_at}
use Rattle.lines.proofs.Checks.{bytes_ok}
use Rattle.lines.proofs.Reading.{runs_proper}
use Rattle.lines.proofs.Coloring.{Seen, named_seen, runs_few, runs_fit}
use Rattle.puzzles.specs.Puzzle.{width, height, lines, clue_at, length_at}
use Rattle.puzzles.specs.Colors.{off_solved}
use Rattle.puzzles.specs.Checks.{colors, puzzle_checks, puzzle}
use Rattle.puzzles.specs.Good.{Good}
use Rattle.puzzles.proofs.Lines.{clue_column, clue_row, length_column, length_row}
use Rattle.puzzles.proofs.Accepting.{good_accepted, good_read}
use Rattle.grids.specs.Grid.{row, column, column_clues, grid_puzzle, grid_checks, grid_words}
use Rattle.grids.specs.Sized.{Sized}
use Rattle.grids.proofs.Cells.{row_length, column_length}
use Rattle.grids.proofs.Checking.{grid_sized, grid_bytes}
use Rattle.grids.proofs.GridColors.{rows_length, rows_at, row_seen, column_seen, seen_known}

-- ---- the sizes

module _ (w h : ℕ) (grid : List ℕ) where
  columns_length : length (column_clues w h grid) ≡ w
  unfolding column_clues
  columns_length = length_tab w _

  pub columns_at : (x : ℕ) → x < w → get_or (column_clues w h grid) x [] ≡ runs (column w h grid x)
  unfolding column_clues
  columns_at x i = get_or_tab w _ [] x i

  pub width_is : width (grid_puzzle w h grid) ≡ w
  unfolding grid_puzzle
  width_is = columns_length

  pub height_is : height (grid_puzzle w h grid) ≡ h
  unfolding grid_puzzle
  height_is = rows_length w h grid

  -- ---- the clues

  column_at : (l : ℕ) → l < w → clue_at (grid_puzzle w h grid) l ≡ runs (column w h grid l)
  unfolding grid_puzzle
  column_at l i = clue_column (grid_puzzle w h grid) l (omega (arith, columns_length)) ∙ columns_at l i

  column_long : (l : ℕ) → l < w → length_at (grid_puzzle w h grid) l ≡ h
  column_long l i = length_column (grid_puzzle w h grid) l (omega (arith, width_is)) ∙ height_is

  row_at : (y : ℕ) → y < h → clue_at (grid_puzzle w h grid) (w + y) ≡ runs (row w grid y)
  unfolding grid_puzzle
  row_at y j = ap (λ (n : ℕ). clue_at (grid_puzzle w h grid) (n + y)) (sym width_is) ∙ clue_row (grid_puzzle w h grid) y ∙ rows_at w h grid y j

  row_long : (y : ℕ) → length_at (grid_puzzle w h grid) (w + y) ≡ w
  row_long y = ap (λ (n : ℕ). length_at (grid_puzzle w h grid) (n + y)) (sym width_is) ∙ length_row (grid_puzzle w h grid) y ∙ width_is

-- the cells of line l
record Line (w h : ℕ) (grid : List ℕ) (l : ℕ) : Type 0 where
  pub cells : List ℕ
  pub clue_is : clue_at (grid_puzzle w h grid) l ≡ runs cells
  pub long : length cells ≡ length_at (grid_puzzle w h grid) l
  pub most : length cells ≤ 64
  pub seen : (c : ℕ) → Seen cells c → Seen grid c

module _ {w h : ℕ} {grid : List ℕ} (S : Sized w h grid) where
  line_column : (l : ℕ) → l < w → Line w h grid l
  line_column l i = record {
    cells = column w h grid l;
    clue_is = column_at w h grid l i;
    long = column_length w h grid l ∙ sym (column_long w h grid l i);
    most = omega (arith, column_length w h grid l, S.height_most);
    seen = λ c C. column_seen S i C;
  }

  line_row : (y : ℕ) → y < h → Line w h grid (w + y)
  line_row y j = record {
    cells = row w grid y;
    clue_is = row_at w h grid y j;
    long = row_length w h grid y ∙ sym (row_long w h grid y);
    most = omega (arith, row_length w h grid y, S.width_most);
    seen = λ c C. row_seen S j C;
  }

  line : (l : ℕ) → l < lines (grid_puzzle w h grid) → Line w h grid l
  line l i = elim (dec_lt l w) [
    | yes a ↦ line_column l a
    | no a ↦
        let e : w + (l - w) ≡ l = omega arith in
        subst (Line w h grid) e (line_row (l - w) (omega (arith, width_is w h grid, height_is w h grid)))
  ]

-- a cell with the mask of bit 0 and K is not one with a colour that is not in K
mask_known : (K : ℕ) → off_solved K (with_bit K 0) ≡ false
unfolding off_solved
mask_known K =
    let some = bit_some (with_bit K 0) 0 (with_same K 0 (omega arith)) in
    rw (← with_zero K, and_self (with_bit K 0), ne_eqb (with_bit K 0) 0 (λ z. omega arith)) (and-false (solved (with_bit K 0)))

module _ (w h : ℕ) (grid : List ℕ) (e : passed ≡ grid_checks w h grid) where
  S : Sized w h grid
  S = grid_sized w h grid e

  -- a block's colour is one of a cell
  block_seen : (l b : ℕ) (L : Line w h grid l) → b < length (clue_at (grid_puzzle w h grid) l) → Seen grid (block_at (clue_at (grid_puzzle w h grid) l) b).color
  block_seen l b L i =
      let k : b < length (runs L.cells) = rw L.clue_is at i in
      rw L.clue_is (L.seen _ (named_seen L.cells (record { block_no = b; within = k; color_is = refl })))

  seen_most : {c : ℕ} → Seen grid c → c ≤ 31
  seen_most C = omega (arith, C.color_is, bytes_ok grid (grid_bytes w h grid e) C.cell C.within)

  masks_length : length (grid_puzzle w h grid).masks ≡ w * h
  unfolding grid_puzzle
  masks_length = length_tab (w * h) _

  pub mask_at_lem : (i : ℕ) → i < w * h → get_or (grid_puzzle w h grid).masks i 0 ≡ with_bit (colors (grid_puzzle w h grid)) 0
  unfolding grid_puzzle
  mask_at_lem i l = get_or_tab (w * h) _ 0 i l

  pub known : {c : ℕ} → 0 < c → Seen grid c → bit (colors (grid_puzzle w h grid)) c ≡ true
  unfolding grid_puzzle
  known {c} p C = seen_known S c p (omega (arith, seen_most C)) C

  grid_proper : (l : ℕ) → Line w h grid l → Proper (clue_at (grid_puzzle w h grid) l)
  grid_proper l L = rw L.clue_is (runs_proper L.cells)

  pub grid_good : Good (grid_puzzle w h grid)
  grid_good = record {
    width_some = omega (arith, width_is w h grid, S.width_some);
    width_most = omega (arith, width_is w h grid, S.width_most);
    height_some = omega (arith, height_is w h grid, S.height_some);
    height_most = omega (arith, height_is w h grid, S.height_most);
    few = λ l i. let L = line S l i in omega (arith, ap length L.clue_is, runs_few L.cells, L.most);
    proper = λ l i. grid_proper l (line S l i);
    colors_most = λ l b i j. seen_most (block_seen l b (line S l i) j);
    fits = λ l i. let L = line S l i in rw (L.clue_is, ← L.long) (runs_fit L.cells);
    area = masks_length ∙ sym (ap₂ ◌*◌ (width_is w h grid) (height_is w h grid));
    masks_some = λ i l. rw (mask_at_lem i (omega (arith, masks_length))) (bit_some _ 0 (with_same (colors (grid_puzzle w h grid)) 0 (omega arith)));
    columns_known = λ l b i j.
        let L = line S l (omega arith) in
        known ((grid_proper l L).colors b j) (block_seen l b L j);
    solved_known = λ i l. rw (mask_at_lem i (omega (arith, masks_length))) (mask_known _);
  }

  -- what `read_grid` writes is accepted as a puzzle, and read as the grid's
  pub grid_accepted : passed ≡ puzzle_checks (grid_words w h grid)
  unfolding grid_words
  grid_accepted = good_accepted (grid_puzzle w h grid) grid_good 0

  pub grid_read : puzzle (grid_words w h grid) ≡ grid_puzzle w h grid
  unfolding grid_words
  grid_read = good_read (grid_puzzle w h grid) grid_good 0
