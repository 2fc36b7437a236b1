-- What is said of a line for a cell's colour.
use Rattle.std.specs.Prelude.{List, ℕ}
use Rattle.sections.specs.Sections.{Clause}
use Rattle.puzzles.specs.Puzzle.{Puzzle}
use Rattle.numbering.specs.Variables.{line_at}
use Rattle.cells.specs.declared.section.Ask.{Ask}
use Rattle.cells.specs.Cells.{covering, ruled}

-- of its cell t
abbrev pub asked : Puzzle → Ask → ℕ → ℕ → List Clause
asked z ask l t = ruled ask.rule ask.v (covering (line_at z l) ask.color t)
