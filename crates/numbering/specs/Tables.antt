-- How writers see an accepted puzzle: its words, the table of its lines, and of each line its words there and its clue's words.
use Rattle.std.specs.Prelude.{◌≡◌, List, ℕ, ◌+◌, ◌*◌, ◌/◌, ◌≤◌, ◌<◌, length, get_or}
use Rattle.lists.specs.Each.{tab}
use Rattle.lines.specs.Clue.{Block, gap, packed, min_space, positions}
use Rattle.lines.specs.Arrangement.{Proper}
use Rattle.puzzles.specs.Checks.{puzzle, Sectioned}
use Rattle.puzzles.specs.Good.{Good}
use Rattle.tables.specs.Layout.{table_size, first_word, positions_word, start_word}
use Rattle.tables.specs.Table.{Laid}
use Rattle.numbering.specs.Variables.{Line, many}

-- words that were accepted, with the table of their lines
pub record Ready (ws table : List ℕ) : Type 0 where
  pub sectioned : Sectioned ws
  pub good : Good (puzzle ws)
  pub laid : Laid (puzzle ws) table
  pub long : table_size ≤ length table

-- the line that a line's words in the table and the words of a clue hold
unfoldable pub line_of : List ℕ → List ℕ → Line
line_of line clue = record {
  first = get_or line first_word 0;
  positions = get_or line positions_word 0;
  runs = tab (length clue / 2) (λ b. record { start = get_or line (start_word b) 0; size = get_or clue (2 * b) 0; color = get_or clue (2 * b + 1) 0 });
}

-- what holds of a line of an accepted puzzle
pub record Sound (L : Line) : Type 0 where
  pub cells : ℕ
  pub clue : List Block
  pub short : cells ≤ 64
  pub proper : Proper clue
  pub fits : min_space gap clue ≤ cells
  pub runs_are : L.runs ≡ packed gap clue
  pub positions_are : L.positions ≡ positions gap cells clue
  pub least : 0 < L.first
  pub most : L.first + many L * L.positions ≤ 262145
