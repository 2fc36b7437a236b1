-- Document 01's ten families in order, and what is counted of them.
use mathlib.Core.List.{List, [], ◌∷◌, ◌++◌, map, flatten}
use Rattle.std.specs.Prelude.{ℕ, ℤ, length}
use Rattle.sections.specs.Sections.{Clause, sections_words, literals}
use Rattle.puzzles.specs.Puzzle.{Puzzle}
use Rattle.numbering.specs.Variables.{variables}
use Rattle.placement.specs.Placement.{of_columns, of_rows}
use Rattle.placement.specs.declared.rule.Rule.TheVariants.{Positions, Once, Overlap}
use Rattle.cells.specs.Cells.{of_cells, point_once, precomputed_cells}
use Rattle.cells.specs.declared.rule.Rule.TheVariants.{Color, Space}

unfoldable pub families : Puzzle → List (List Clause)
families z =
    of_columns z Positions ∷ of_rows z Positions
    ∷ of_columns z Once ∷ of_rows z Once
    ∷ of_columns z Overlap ∷ of_rows z Overlap
    ∷ of_cells z Color ∷ of_cells z Space
    ∷ point_once z
    ∷ precomputed_cells z ∷ []

-- all clauses, one family after another
abbrev pub clauses : Puzzle → List Clause
clauses z = flatten (families z)

-- the clause buffer
abbrev pub buffer : Puzzle → List ℤ
buffer z = sections_words (families z)

-- variables, the ten clause counts, all literals, words: what the call `counts` writes
unfoldable pub counts_of : Puzzle → List ℕ
counts_of z = variables z ∷ (map length (families z) ++ (literals (clauses z) ∷ length (buffer z) ∷ []))
