-- Small puzzles: their words are accepted and have pictures, P11 two.
use mathlib.Core.Path.{◌≡◌, refl, sym, ap, subst, ◌∙◌}
use mathlib.Core.Logic.{inr}
use mathlib.Core.Bool.{false≢true}
use mathlib.Core.List.{List, flatten, flat_map}
use Prim.Native.Nat.{ℕ}
use native.Mathlib.Omega.{arith}
use lib.ListN.{length}
use Rattle.lists.specs.Each.{each, tab, pairs, product}
use Rattle.refusals.specs.Verdict.{first_off}
use Rattle.refusals.specs.Walk.{walked, read_or, word, times, counted}
use Rattle.sections.specs.Sections.{at_least_one, at_most_one}
use Rattle.bits.specs.Bits.{bit, powers, with_bit, solved}
use Rattle.lines.specs.Clue.{words, gap, packed_from, packed, last_end, min_space, positions, conflict}
use Rattle.lines.specs.Line.{run, runs_from, runs}
use Rattle.lines.specs.Arrangement.{block_at}
use Rattle.puzzles.specs.Puzzle.{clue_words, lines_words, cells_words, puzzle_words, clue_at, length_at}
use Rattle.puzzles.specs.Colors.{with_colors, with_lines, color_set, known, off_solved}
use Rattle.puzzles.specs.Walk.{read_block, read_puzzle}
use Rattle.puzzles.specs.Checks.{spaces, meaning_checks, puzzle}
use Rattle.puzzles.specs.Firsts.{first_at}
use Rattle.numbering.specs.Variables.{line_at, palette, cell_first, variables}
use Rattle.placement.specs.Placement as Placement
use Rattle.placement.specs.Placement.{block_positions, block_once, non_overlap, of_lines}
use Rattle.cells.specs.Cells as Cells
use Rattle.cells.specs.Cells.{covering, of_color, by_column, precomputed, precomputed_cells}
use Rattle.counts.specs.Families.{families}
use Rattle.grids.specs.Grid.{row, column, size_checks, grid_checks, row_clues, column_clues, grid_puzzle, grid_words}
use Rattle.truth.specs.Truth.{literal_true, clause_true, all_true}
use Rattle.pictures.specs.Pictures.{Grid, permits, obeys, Picture, color_of, shown, blocking}
use Rattle.pictures.specs.Examples.{p8, p10, p11, p12, two, Read, Computed, SmallPictures}
use Rattle.pictures.proofs.ReadGrids.{grids_read}

-- above crate `lines`, here and in `table` alone are definitions of it unfolded
pub computed : Computed
unfolding
    p8 p10 p11 p12 two each tab pairs product first_off bit powers with_bit
    gap packed_from packed last_end min_space positions conflict words run runs_from runs
    clue_words flat_map lines_words cells_words puzzle_words clue_at length_at with_colors with_lines color_set known solved off_solved
    walked read_or word times counted read_block read_puzzle spaces meaning_checks
    first_at line_at palette cell_first variables at_least_one at_most_one
    block_positions block_once non_overlap Placement.ruled of_lines covering Cells.ruled of_color by_column precomputed precomputed_cells families flatten
    row column size_checks grid_checks row_clues column_clues grid_puzzle grid_words
    literal_true clause_true all_true permits obeys color_of shown blocking
computed = record {
  p8_accepted = (refl, refl);
  p10_accepted = (refl, refl);
  p11_accepted = (refl, refl);
  p12_accepted = (refl, refl);
  full_read = record { checked = refl; written = refl };
  left_read = record { checked = refl; written = refl };
  falling_read = record { checked = refl; written = refl };
  rising_read = record { checked = refl; written = refl };
  right_off = λ P. omega (arith, ap length (P.columns_read 0 (omega arith)));
  level_off = λ P. omega (arith, ap (λ bs. (block_at bs 0).size) (P.rows_read 0 (omega arith)));
  p11_solved = refl;
  p11_shown = refl;
  p11_blocking = refl;
  p12_solved = refl;
  p12_shown = refl;
  p12_blocking = refl;
  two_accepted = (refl, refl);
  touching_read = record { checked = refl; written = refl };
  two_solved = refl;
  two_shown = refl;
  two_blocking = refl;
  solved_blank = refl;
  solved_color = refl;
  excluded = refl;
  blank_stays = refl;
  row_off = λ H.
      false≢true ((H 0 0 0 (omega arith) (omega arith) (omega arith)).1 0 0 (record { block_in = omega arith; position_in = omega arith; color_is = refl; covered = refl }) refl);
  both_off = λ H. H 0 0 0 1 (omega arith) (omega arith) (omega arith) (omega arith) refl refl;
  column_off = λ E. false≢true (E 1 0 0 (omega arith) (omega arith) (omega arith));
  five_known = inr (search arith);
  byte_off = λ M. omega (arith, M.bytes 0 (omega arith));
  p12_unique = λ grid β γ s t e f v l m.
      let one : v ≡ 1 = omega arith in
      rw one (e 0 0 0 (omega arith) (omega arith) (omega arith) ∙ sym (f 0 0 0 (omega arith) (omega arith) (omega arith)));
  p12_second = refl;
}

-- what a grid is read as has it as a picture
pictured : {w h : ℕ} {grid ws : List ℕ} → Read w h grid ws → Grid (puzzle ws) grid × Picture (puzzle ws) grid
pictured {w} {h} {grid} R = subst (λ ws. Grid (puzzle ws) grid × Picture (puzzle ws) grid) R.written (let P = grids_read w h grid R.checked in (P.1, P.2))

pub small_pictures : SmallPictures
small_pictures = record {
  p8_full = pictured computed.full_read;
  p10_left = pictured computed.left_read;
  p11_falling = pictured computed.falling_read;
  p11_rising = pictured computed.rising_read;
  two_touching = pictured computed.touching_read;
}
