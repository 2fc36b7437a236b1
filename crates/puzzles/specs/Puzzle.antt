-- Document 01, "Words of a puzzle": what a puzzle is, and its words.
use Rattle.std.specs.Prelude.{cond, ℕ, ◌+◌, ltb, length, get_or}
use mathlib.Core.List.{List, [], ◌∷◌, ◌++◌, flat_map}
use Rattle.lines.specs.Clue.{Block, words}

-- a clue for each column and each row, and a mask for each cell, row by row
pub record Puzzle : Type 0 where
  pub columns : List (List Block)
  pub rows : List (List Block)
  pub masks : List ℕ

abbrev pub width : Puzzle → ℕ
width z = length z.columns

abbrev pub height : Puzzle → ℕ
height z = length z.rows

-- ---- its words

-- a block count, and a size and colour per block
unfoldable pub clue_words : List Block → List ℕ
clue_words bs = length bs ∷ words bs

abbrev pub clues_words : List (List Block) → List ℕ
clues_words ls = flat_map clue_words ls

-- each section after its count
unfoldable pub lines_words : List (List Block) → List ℕ
lines_words ls = length ls ∷ clues_words ls

unfoldable pub cells_words : List ℕ → List ℕ
cells_words masks = length masks ∷ masks

unfoldable pub puzzle_words : Puzzle → List ℕ
puzzle_words z = lines_words z.columns ++ (lines_words z.rows ++ cells_words z.masks)

-- where the rows and the cells begin
unfoldable pub rows_at : Puzzle → ℕ
rows_at z = length (lines_words z.columns)

unfoldable pub cells_at : Puzzle → ℕ
cells_at z = rows_at z + length (lines_words z.rows)

-- ---- its lines, columns from 0, rows from width

abbrev pub lines : Puzzle → ℕ
lines z = width z + height z

unfoldable pub clue_at : Puzzle → ℕ → List Block
clue_at z l = get_or (z.columns ++ z.rows) l []

unfoldable pub length_at : Puzzle → ℕ → ℕ
length_at z l = cond (ltb l (width z)) (height z) (width z)
