-- What is laid of a puzzle's lines once per call, in a table: of each where its clue begins, its first variable,
-- and then what the starts call writes of it.
use Rattle.std.specs.Prelude.{◌≡◌, cond, List, ◌∷◌, ◌++◌, ℕ, ◌+◌, ◌-◌, ◌*◌, ◌≤◌, ◌<◌, ltb, length, take, drop}
use Rattle.lines.specs.Clue.{words}
use Rattle.lines.specs.Calls.{starts_words}
use Rattle.puzzles.specs.Firsts.{first_at}
use Rattle.puzzles.specs.Puzzle.{Puzzle, width, lines, clues_words, clue_at, length_at}
use Rattle.puzzles.specs.Checks.{puzzle}
use Rattle.tables.specs.declared.table.Parts.{Parts}
use Rattle.tables.specs.Layout.{line_size}

-- the word of the line's block count: the counts of the sections and the clues before it come first
unfoldable pub begin_at : Puzzle → ℕ → ℕ
begin_at z l = cond (ltb l (width z)) 1 2 + length (clues_words (take l (z.columns ++ z.rows)))

unfoldable pub laid_words : Puzzle → ℕ → List ℕ
laid_words z l = begin_at z l ∷ first_at z l ∷ starts_words (length_at z l) (words (clue_at z l))

-- the line's words stand at its place in the table
abbrev pub LineLaid : Puzzle → List ℕ → ℕ → Type 0
LineLaid z table l = take (length (laid_words z l)) (drop (line_size * l) table) ≡ laid_words z l

abbrev pub Laid : Puzzle → List ℕ → Type 0
Laid z table = (l : ℕ) → l < lines z → LineLaid z table l

-- where line l stands: its own words in the table from `line` on, and those of its clue from `begin` to `end`
pub record Found (ws table : List ℕ) (l : ℕ) (p : Parts) : Type 0 where
  pub line_is : p.line ≡ line_size * l
  pub line_within : p.line + line_size ≤ length table
  pub begin_is : p.begin ≡ begin_at (puzzle ws) l + 1
  pub end_is : p.end ≡ p.begin + 2 * length (clue_at (puzzle ws) l)
  pub end_within : p.end ≤ length ws
  pub clue_is : take (p.end - p.begin) (drop p.begin ws) ≡ words (clue_at (puzzle ws) l)

-- where the loop that lays them stands, before line l
pub record Standing (z : Puzzle) (l at first : ℕ) : Type 0 where
  pub at_is : at ≡ begin_at z l
  pub at_most : at ≤ 1 + 130 * l
  pub first_is : first ≡ first_at z l
  pub first_most : first ≤ 1 + 4160 * l
