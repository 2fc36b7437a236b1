-- Document 01's families 7 to 10: the colours of cells.
use Rattle.std.specs.Prelude.{not, cond, List, [], ◌∷◌, ◌++◌, map, ℕ, ◌+◌, ◌*◌, eqb, get_or}
use Rattle.lists.specs.Each.{each, when}
use Rattle.literals.specs.Literals.{positive, negative}
use Rattle.bits.specs.Bits.{bit, solved}
use Rattle.sections.specs.Sections.{Clause, at_most_one}
use Rattle.lines.specs.Arrangement.{at, covers}
use Rattle.puzzles.specs.Puzzle.{Puzzle, width, height}
use Rattle.numbering.specs.Variables.{Line, line_at, many, placed_at, variable, hues, hue, cell_first, cell_variable}
use Rattle.cells.specs.declared.rule.Rule.{Rule}
use Rattle.cells.specs.declared.rule.Rule.TheVariants.{Color, Space}

-- the positions of colour c that cover the cell t of a line
unfoldable pub covering : Line → ℕ → ℕ → List ℕ
covering L c t =
    each (many L) (λ b. when (eqb (at L.runs b).color c)
    (each L.positions (λ i. when (covers (placed_at L b i) t) (variable L b i ∷ []))))

-- of a cell variable v and the positions us of its colour that cover the cell in one line
unfoldable pub ruled : Rule → ℕ → List ℕ → List Clause
-- 7: these, then the cell variable negated
ruled Color v us = (map positive us ++ (negative v ∷ [])) ∷ []
-- 8: per position: it negated, the cell variable
ruled Space v us = map (λ u. negative u ∷ positive v ∷ []) us

-- of the cell of column x and row y and the r-th colour: the column, then the row
unfoldable pub of_color : Puzzle → Rule → ℕ → ℕ → ℕ → List Clause
of_color z rule x y r =
    ruled rule (cell_variable z x y r) (covering (line_at z x) (hue z r) y)
    ++ ruled rule (cell_variable z x y r) (covering (line_at z (width z + y)) (hue z r) x)

-- 7, 8 and 9 take cells column by column, top to bottom
unfoldable pub by_column : Puzzle → (ℕ → ℕ → List Clause) → List Clause
by_column z f = each (width z) (λ x. each (height z) (λ y. f x y))

-- 7, 8: per cell, colour
abbrev pub of_cell : Puzzle → Rule → ℕ → ℕ → List Clause
of_cell z rule x y = each (hues z) (of_color z rule x y)

abbrev pub of_cells : Puzzle → Rule → List Clause
of_cells z rule = by_column z (of_cell z rule)

-- 9: per cell, colour pair: both negated
abbrev pub point_once : Puzzle → List Clause
point_once z = by_column z (λ x y. at_most_one (cell_first z x y) (hues z))

-- 10: solved colour, its variable; solved blank, each negated; unsolved, each excluded colour negated
unfoldable pub precomputed : ℕ → ℕ → ℕ → List Clause
precomputed mask c v =
    cond (solved mask)
    (cond (bit mask 0) ((negative v ∷ []) ∷ []) (when (bit mask c) ((positive v ∷ []) ∷ [])))
    (when (not (bit mask c)) ((negative v ∷ []) ∷ []))

abbrev pub mask_at : Puzzle → ℕ → ℕ → ℕ
mask_at z x y = get_or z.masks (y * width z + x) 0

-- row by row
unfoldable pub precomputed_cells : Puzzle → List Clause
precomputed_cells z =
    each (height z) (λ y. each (width z) (λ x. each (hues z) (λ r. precomputed (mask_at z x y) (hue z r) (cell_variable z x y r))))
