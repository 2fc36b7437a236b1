-- Document 01: a grid is width, height and colour bytes row by row. What `read_grid` and `transpose` refuse, and what they write.
use Rattle.std.specs.Prelude.{not, List, ℕ, ◌+◌, ◌*◌, eqb, length, get_or}
use Rattle.lists.specs.Each.{each, tab}
use Rattle.refusals.specs.Verdict.{Checks, passed, refuse, and_then}
use Rattle.bits.specs.Bits.{with_bit}
use Rattle.lines.specs.Clue.{Block}
use Rattle.lines.specs.Line.{runs}
use Rattle.lines.specs.Calls.{off_size, byte_checks}
use Rattle.puzzles.specs.Puzzle.{Puzzle, puzzle_words}
use Rattle.puzzles.specs.Colors.{color_set}

-- row y and column x of a grid of width w and height h
unfoldable pub row : ℕ → List ℕ → ℕ → List ℕ
row w grid y = tab w (λ x. get_or grid (y * w + x) 0)

unfoldable pub column : ℕ → ℕ → List ℕ → ℕ → List ℕ
column w h grid x = tab h (λ y. get_or grid (y * w + x) 0)

-- ---- the calls

-- 2, 7
unfoldable pub size_checks : ℕ → ℕ → List ℕ → Checks
size_checks w h grid =
    refuse (off_size w) 2 0
    (refuse (off_size h) 2 1
    (refuse (not (eqb (length grid) (w * h))) 7 (length grid)
    passed))

-- 2, 7, 18
unfoldable pub grid_checks : ℕ → ℕ → List ℕ → Checks
grid_checks w h grid = and_then (size_checks w h grid) (byte_checks grid)

-- the grid's columns as rows
unfoldable pub transposed : ℕ → ℕ → List ℕ → List ℕ
transposed w h grid = each w (column w h grid)

unfoldable pub row_clues : ℕ → ℕ → List ℕ → List (List Block)
row_clues w h grid = tab h (λ y. runs (row w grid y))

unfoldable pub column_clues : ℕ → ℕ → List ℕ → List (List Block)
column_clues w h grid = tab w (λ x. runs (column w h grid x))

-- the puzzle of a grid; its masks are exactly bit 0 and K
unfoldable pub grid_puzzle : ℕ → ℕ → List ℕ → Puzzle
grid_puzzle w h grid = record {
  columns = column_clues w h grid;
  rows = row_clues w h grid;
  masks = tab (w * h) (λ i. with_bit (color_set (row_clues w h grid)) 0);
}

unfoldable pub grid_words : ℕ → ℕ → List ℕ → List ℕ
grid_words w h grid = puzzle_words (grid_puzzle w h grid)
