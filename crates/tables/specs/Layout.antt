-- The layout of the table, as src/layout.rt has it: the words of each line, and of up to 128 lines.
use Rattle.std.specs.Prelude.{ℕ, ◌+◌, ◌*◌}

abbrev pub line_size : ℕ
line_size = 68

abbrev pub table_size : ℕ
table_size = 128 * line_size

-- which of a line's words is what; where its clue begins is the first
abbrev pub first_word : ℕ
first_word = 1

abbrev pub positions_word : ℕ
positions_word = 2

abbrev pub start_word : ℕ → ℕ
start_word b = 4 + b
