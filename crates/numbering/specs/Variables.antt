-- Document 01, "Variables": from 1; columns, their blocks, their positions; then rows likewise; then cells row by row, colours of K ascending.
use Rattle.std.specs.Prelude.{List, [], ◌∷◌, ℕ, suc, ◌+◌, ◌-◌, ◌*◌, length, get_or}
use Rattle.lists.specs.Each.{each, when}
use Rattle.bits.specs.Bits.{bit}
use Rattle.lines.specs.Clue.{Run, gap, packed}
use Rattle.lines.specs.Arrangement.{at, moved}
use Rattle.puzzles.specs.Puzzle.{Puzzle, width, height, lines, clue_at}
use Rattle.puzzles.specs.Checks.{colors}
use Rattle.puzzles.specs.Firsts.{first_at, positions_at}

-- ---- the lines

-- a line's first variable, the positions of each of its blocks, and the blocks in the packed line
pub record Line : Type 0 where
  pub first : ℕ
  pub positions : ℕ
  pub runs : List Run

unfoldable pub line_at : Puzzle → ℕ → Line
line_at z l = record { first = first_at z l; positions = positions_at z l; runs = packed gap (clue_at z l) }

-- how many blocks it has
abbrev pub many : Line → ℕ
many L = length L.runs

-- block b at its position i
abbrev pub placed_at : Line → ℕ → ℕ → Run
placed_at L b i = moved (at L.runs b) i

-- the first variable of block b, and that of its position i
abbrev pub first_of : Line → ℕ → ℕ
first_of L b = L.first + b * L.positions

abbrev pub variable : Line → ℕ → ℕ → ℕ
variable L b i = first_of L b + i

-- ---- the cells

-- the colours of K, ascending
unfoldable pub palette : ℕ → List ℕ
palette K = each 31 (λ k. when (bit K (suc k)) (suc k ∷ []))

-- how many colours a puzzle has, and the r-th of them
abbrev pub hues : Puzzle → ℕ
hues z = length (palette (colors z))

abbrev pub hue : Puzzle → ℕ → ℕ
hue z r = get_or (palette (colors z)) r 0

-- the first variable of all cells, that of the cell of column x and row y, and that of its r-th colour
abbrev pub first_cell : Puzzle → ℕ
first_cell z = first_at z (lines z)

unfoldable pub cell_first : Puzzle → ℕ → ℕ → ℕ
cell_first z x y = first_cell z + (y * width z + x) * hues z

abbrev pub cell_variable : Puzzle → ℕ → ℕ → ℕ → ℕ
cell_variable z x y r = cell_first z x y + r

-- how many variables there are
unfoldable pub variables : Puzzle → ℕ
variables z = first_cell z - 1 + width z * height z * hues z
