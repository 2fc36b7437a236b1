-- The puzzle that a `Given` holds, and where the variables of a board's cells begin.
use Rattle.std.specs.Prelude.{ℕ, ◌+◌, ◌*◌}
use Rattle.puzzles.specs.Puzzle.{Puzzle}
use Rattle.boards.specs.declared.board.Board.{Board}
use Rattle.numbering.specs.Held.{puzzle_read}
use Rattle.cells.specs.declared.given.Given as G

abbrev pub puzzle_given : G.Given → Puzzle
puzzle_given g = puzzle_read g.reading

-- the first variable of the cell of column x and row y, on a board of k colours
abbrev pub cell_at : Board → ℕ → ℕ → ℕ → ℕ
cell_at board k x y = board.first + (y * board.width + x) * k
