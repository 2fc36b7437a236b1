-- Document 01, "Refusal numbers": the order for a puzzle. After the walk come 11; 6 by line; 9; 10.
use Rattle.std.specs.Prelude.{◌≡◌, not, List, [], ℕ, ltb}
use Rattle.refusals.specs.Verdict.{Checks, passed, and_then, first_off}
use Rattle.refusals.specs.Walk.{Walk, walked, read_or}
use Rattle.lines.specs.Clue.{Block, gap, min_space}
use Rattle.puzzles.specs.Puzzle.{Puzzle, width, height}
use Rattle.puzzles.specs.Colors.{color_set, known, off_solved}
use Rattle.puzzles.specs.Walk.{read_puzzle}

-- 6: lines of n cells, the first of them line i
abbrev pub space_checks : ℕ → ℕ → List (List Block) → Checks
space_checks n i ls = first_off (λ bs. ltb n (min_space gap bs)) 6 i ls

-- 9, by column
abbrev pub column_checks : ℕ → List (List Block) → Checks
column_checks K columns = first_off (λ bs. not (known K bs)) 9 0 columns

-- 10, by cell
abbrev pub solved_checks : ℕ → List ℕ → Checks
solved_checks K masks = first_off (λ mask. off_solved K mask) 10 0 masks

-- the colour set of a puzzle
abbrev pub colors : Puzzle → ℕ
colors z = color_set z.rows

-- 6, by line
unfoldable pub spaces : Puzzle → Checks
spaces z = and_then (space_checks (height z) 0 z.columns) (space_checks (width z) (width z) z.rows)

unfoldable pub meaning_checks : Puzzle → Checks
meaning_checks z = and_then (spaces z) (and_then (column_checks (colors z) z.columns) (solved_checks (colors z) z.masks))

-- the puzzle that a walk read
abbrev pub puzzle_of : Walk ℕ Puzzle → Puzzle
puzzle_of w = read_or (record { columns = []; rows = []; masks = [] }) w

-- the walk, then 11, then what the puzzle means
abbrev pub checks_of : Walk ℕ Puzzle → Checks
checks_of w = and_then (walked 11 w) (meaning_checks (puzzle_of w))

-- the puzzle that words hold
abbrev pub puzzle : List ℕ → Puzzle
puzzle ws = puzzle_of (read_puzzle 0 ws)

-- they are the three sections and no more
abbrev pub Sectioned : List ℕ → Type 0
Sectioned ws = passed ≡ walked 11 (read_puzzle 0 ws)

abbrev pub puzzle_checks : List ℕ → Checks
puzzle_checks ws = checks_of (read_puzzle 0 ws)
