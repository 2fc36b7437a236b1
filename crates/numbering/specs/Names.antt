-- What the variables stand for: each position of each block of each line, and each colour of K of each cell.
use Rattle.std.specs.Prelude.{ℕ, ◌<◌, length}
use Rattle.puzzles.specs.Puzzle.{Puzzle, width, height, lines, clue_at}
use Rattle.puzzles.specs.Firsts.{positions_at}
use Rattle.numbering.specs.Variables.{line_at, variable, hues, cell_variable}

pub data Name : Type 0 where
  -- line l, its block b, at its position i
  position : ℕ → ℕ → ℕ → Name
  -- the cell of column x and row y, with the r-th colour
  cell : ℕ → ℕ → ℕ → Name

-- it names something of the puzzle
abbrev pub IsName : Puzzle → Name → Type 0
IsName z (position l b i) = (l < lines z) × (b < length (clue_at z l)) × (i < positions_at z l)
IsName z (cell x y r) = (x < width z) × (y < height z) × (r < hues z)

-- its variable
abbrev pub numbered : Puzzle → Name → ℕ
numbered z (position l b i) = variable (line_at z l) b i
numbered z (cell x y r) = cell_variable z x y r
