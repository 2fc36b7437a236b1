-- Document 01, "Variables": from 1; columns, their blocks, their positions; then rows likewise.
use Rattle.std.specs.Prelude.{ℕ, zero, suc, ◌+◌, ◌*◌, length}
use Rattle.lines.specs.Clue.{gap, positions}
use Rattle.puzzles.specs.Puzzle.{Puzzle, clue_at, length_at}

-- the positions of each block of line l
abbrev pub positions_at : Puzzle → ℕ → ℕ
positions_at z l = positions gap (length_at z l) (clue_at z l)

-- its first variable: before it are those of the lines before, one for each position of each block
unfoldable pub first_at : Puzzle → ℕ → ℕ
first_at z zero = 1
first_at z (suc l) = first_at z l + length (clue_at z l) * positions_at z l
