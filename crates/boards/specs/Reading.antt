-- What reading a puzzle's words answers: a refusal, or a board that stands for the puzzle, with the table of its lines laid.
use Rattle.std.specs.Prelude.{◌≡◌, List, ℕ, Result, Ok, Err}
use Rattle.refusals.specs.Verdict.{passed}
use Rattle.refusals.specs.declared.Refusal.{Refusal}
use Rattle.refusals.specs.Told.{refusal}
use Rattle.boards.specs.declared.board.Board.{Board}
use Rattle.puzzles.specs.Puzzle.{Puzzle, width, height, lines, rows_at, cells_at}
use Rattle.puzzles.specs.Checks.{colors, puzzle_checks, puzzle}
use Rattle.puzzles.specs.Firsts.{first_at}
use Rattle.tables.specs.Table.{Laid}

-- the board's numbers are the puzzle's
pub record Stands (b : Board) (z : Puzzle) : Type 0 where
  pub width_is : b.width ≡ width z
  pub height_is : b.height ≡ height z
  pub rows_is : b.rows ≡ rows_at z
  pub cells_is : b.cells ≡ cells_at z
  pub first_is : b.first ≡ first_at z (lines z)
  pub colors_is : b.colors ≡ colors z

pub record Held (ws : List ℕ) (table : List ℕ) (b : Board) : Type 0 where
  pub checked : passed ≡ puzzle_checks ws
  pub stands : Stands b (puzzle ws)
  pub laid : Laid (puzzle ws) table

abbrev pub Reads : List ℕ → List ℕ → Result Board Refusal → Type 0
Reads ws table (Ok b) = Held ws table b
Reads ws table (Err why) = refusal why ≡ puzzle_checks ws
