-- Document 01's families 1 to 6: where the blocks of columns and rows stand.
use Rattle.std.specs.Prelude.{List, [], ◌∷◌, ℕ, ◌+◌}
use Rattle.lists.specs.Each.{each, tab, pairs, product, when}
use Rattle.sections.specs.Sections.{Clause, not_both, at_least_one, at_most_one}
use Rattle.lines.specs.Clue.{gap}
use Rattle.lines.specs.Arrangement.{clash}
use Rattle.puzzles.specs.Puzzle.{Puzzle, width, height}
use Rattle.numbering.specs.Variables.{Line, line_at, many, placed_at, first_of, variable}
use Rattle.placement.specs.declared.rule.Rule.{Rule}
use Rattle.placement.specs.declared.rule.Rule.TheVariants.{Positions, Once, Overlap}

-- 1, 2: per block: some position
unfoldable pub block_positions : Line → List Clause
block_positions L = tab (many L) (λ b. at_least_one (first_of L b) L.positions)

-- 3, 4: per block: no two positions; pairs first outer
unfoldable pub block_once : Line → List Clause
block_once L = each (many L) (λ b. at_most_one (first_of L b) L.positions)

-- of two blocks, per position pair in conflict: not both
abbrev pub conflicts : Line → ℕ → ℕ → List Clause
conflicts L a b =
    product L.positions (λ i j. when (clash gap (placed_at L a i) (placed_at L b j)) (not_both (variable L a i) (variable L b j) ∷ []))

-- 5, 6: that per block pair
unfoldable pub non_overlap : Line → List Clause
non_overlap L = pairs (many L) (conflicts L)

unfoldable pub ruled : Rule → Line → List Clause
ruled Positions L = block_positions L
ruled Once L = block_once L
ruled Overlap L = non_overlap L

-- of n lines from line l on
unfoldable pub of_lines : Puzzle → Rule → ℕ → ℕ → List Clause
of_lines z rule l n = each n (λ k. ruled rule (line_at z (l + k)))

abbrev pub of_columns : Puzzle → Rule → List Clause
of_columns z rule = of_lines z rule 0 (width z)

abbrev pub of_rows : Puzzle → Rule → List Clause
of_rows z rule = of_lines z rule (width z) (height z)
