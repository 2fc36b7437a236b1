-- The cells of families 9 and 10, by the numbers of a board.
use Rattle.std.specs.Prelude.{◌≡◌, List, ℕ, ◌+◌, ◌*◌, length, get_or}
use Rattle.lists.specs.Each.{each}
use Rattle.sections.specs.Sections.{Clause, at_most_one}
use Rattle.puzzles.specs.Checks.{puzzle, colors, Sectioned}
use Rattle.puzzles.specs.Good.{Good}
use Rattle.boards.specs.Reading.{Stands}
use Rattle.boards.specs.declared.board.Board.{Board}
use Rattle.numbering.specs.Variables as N
use Rattle.cells.specs.Cells.{precomputed}

-- accepted words, their board and their colours in order
pub record Masked (ws : List ℕ) (board : Board) (palette : List ℕ) : Type 0 where
  pub sectioned : Sectioned ws
  pub good : Good (puzzle ws)
  pub stands : Stands board (puzzle ws)
  pub palette_is : palette ≡ N.palette (colors (puzzle ws))

-- 9, of column x
unfoldable pub column_once : Board → ℕ → ℕ → List Clause
column_once b k x = each b.height (λ y. at_most_one (b.first + (y * b.width + x) * k) k)

-- 10, of a cell whose variables begin at v, and of all cells
unfoldable pub of_mask : List ℕ → ℕ → ℕ → List Clause
of_mask palette mask v = each (length palette) (λ r. precomputed mask (get_or palette r 0) (v + r))

unfoldable pub of_masks : List ℕ → List ℕ → ℕ → List Clause
of_masks palette masks v = each (length masks) (λ i. of_mask palette (get_or masks i 0) (v + i * length palette))
