-- What the writers of the cells' sections are given.
use Rattle.std.specs.Prelude.{◌≡◌, List, ℕ}
use Rattle.puzzles.specs.Puzzle.{Puzzle}
use Rattle.puzzles.specs.Checks.{puzzle, colors}
use Rattle.puzzles.specs.Good.{Good}
use Rattle.boards.specs.Reading.{Stands}
use Rattle.boards.specs.declared.board.Board.{Board}
use Rattle.numbering.specs.Variables as N
use Rattle.numbering.specs.Tables.{Ready}

-- a board of k colours, of an accepted puzzle
pub record Shows (board : Board) (k : ℕ) (z : Puzzle) : Type 0 where
  pub good : Good z
  pub stands : Stands board z
  pub hues_are : k ≡ N.hues z

-- accepted words with the table of their lines, their board, and their colours in order
pub record Given (ws table : List ℕ) (board : Board) (palette : List ℕ) : Type 0 where
  pub ready : Ready ws table
  pub stands : Stands board (puzzle ws)
  pub palette_is : palette ≡ N.palette (colors (puzzle ws))
