-- The ten families in the groups in which they are written.
use Rattle.std.specs.Prelude.{List, [], ◌∷◌, ◌++◌}
use Rattle.sections.specs.Sections.{Clause}
use Rattle.puzzles.specs.Puzzle.{Puzzle}
use Rattle.placement.specs.Placement.{of_columns, of_rows}
use Rattle.placement.specs.declared.rule.Rule.{Rule}
use Rattle.placement.specs.declared.rule.Rule.TheVariants.{Positions, Once, Overlap}
use Rattle.cells.specs.Cells.{of_cells, point_once, precomputed_cells}
use Rattle.cells.specs.declared.rule.Rule.TheVariants.{Color, Space}

abbrev pub both : Puzzle → Rule → List (List Clause)
both z rule = of_columns z rule ∷ of_rows z rule ∷ []

-- 1 to 6
abbrev pub line_sections : Puzzle → List (List Clause)
line_sections z = both z Positions ++ (both z Once ++ both z Overlap)

-- 7 to 10
abbrev pub cell_sections : Puzzle → List (List Clause)
cell_sections z = of_cells z Color ∷ of_cells z Space ∷ point_once z ∷ precomputed_cells z ∷ []
