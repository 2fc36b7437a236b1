-- What a rule says of a cell's two lines.
use Rattle.std.specs.Prelude.{cond, List, ℕ, eqb}
use Rattle.sections.specs.Sections.{Clause}
use Rattle.puzzles.specs.Puzzle.{Puzzle}
use Rattle.numbering.specs.Variables.{line_at}
use Rattle.cells.specs.declared.rule.Rule.{Rule}
use Rattle.cells.specs.Cells.{covering, ruled}

-- the positions of colour c that cover a cell: on side 0 the cell y of line x, and else the cell x of the line `row`
abbrev pub on_side : Puzzle → ℕ → ℕ → ℕ → ℕ → ℕ → List ℕ
on_side z c x row y s = covering (line_at z (cond (eqb s 0) x row)) c (cond (eqb s 0) y x)

-- where v is the cell's variable of that colour
abbrev pub of_side : Puzzle → Rule → ℕ → ℕ → ℕ → ℕ → ℕ → ℕ → List Clause
of_side z rule c v x row y s = ruled rule v (on_side z c x row y s)
