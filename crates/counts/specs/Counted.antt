-- The counts that the code keeps: each is the length of a list that document 01 defines.
use Rattle.std.specs.Prelude.{◌≡◌, List, [], ◌∷◌, ℕ, ◌+◌, ◌-◌, ◌*◌, ◌/◌, ◌≤◌, ◌<◌, length}
use Rattle.sections.specs.Sections.{literals}
use Rattle.puzzles.specs.Puzzle.{Puzzle, width, height}
use Rattle.numbering.specs.Variables.{variables}
use Rattle.placement.specs.Placement.{of_lines}
use Rattle.placement.specs.declared.rule.Rule.TheVariants.{Positions, Once, Overlap}
use Rattle.cells.specs.Cells.{of_cells, point_once, precomputed_cells}
use Rattle.cells.specs.declared.rule.Rule.TheVariants.{Color, Space}
use Rattle.counts.specs.Families.{clauses, buffer}
use Rattle.counts.specs.declared.total.Side.{Side}
use Rattle.counts.specs.declared.total.Cells.{Cells}
use Rattle.counts.specs.declared.total.Counts.{Counts}

pub record SideCounted (z : Puzzle) (l n : ℕ) (s : Side) : Type 0 where
  pub positions_is : s.positions ≡ length (of_lines z Positions l n)
  pub once_is : s.once ≡ length (of_lines z Once l n)
  pub overlap_is : s.overlap ≡ length (of_lines z Overlap l n)

pub record CellsCounted (z : Puzzle) (s : Cells) : Type 0 where
  pub color_is : s.color ≡ length (of_cells z Color)
  pub space_is : s.space ≡ length (of_cells z Space)
  pub point_is : s.point ≡ length (point_once z)
  pub units_is : s.units ≡ length (precomputed_cells z)

-- numbers of the families, and the first cell variable, small enough to be added up
pub record SmallSums (first : ℕ) (columns rows : Side) (cells : Cells) : Type 0 where
  pub first_some : 0 < first
  pub first_most : first ≤ 135169
  pub positions : columns.positions + rows.positions ≤ 8192
  pub twos : columns.once + rows.once + columns.overlap + rows.overlap + cells.space + cells.point ≤ 151531520
  pub color : cells.color ≤ 253952
  pub space : cells.space ≤ 532480
  pub units : cells.units ≤ 126976

-- and added up: two literals to a clause, but for the first two families, 7 and 10
abbrev pub summed : ℕ → Side → Side → Cells → Counts
summed first columns rows cells =
    let twos = columns.once + rows.once + columns.overlap + rows.overlap + cells.space + cells.point in
    let lits = first - 1 + 2 * twos + cells.color + cells.space + cells.units in
    record {
      variables = first - 1 + cells.color / 2;
      columns = columns;
      rows = rows;
      cells = cells;
      literals = lits;
      words = 10 + (columns.positions + rows.positions + twos + cells.color + cells.units) + lits;
    }

pub record Counted (z : Puzzle) (c : Counts) : Type 0 where
  pub variables_is : c.variables ≡ variables z
  pub columns_are : SideCounted z 0 (width z) c.columns
  pub rows_are : SideCounted z (width z) (height z) c.rows
  pub cells_are : CellsCounted z c.cells
  pub literals_is : c.literals ≡ literals (clauses z)
  pub words_is : c.words ≡ length (buffer z)

-- as the call `counts` writes them
abbrev pub numbers : Counts → List ℕ
numbers c =
    c.variables
    ∷ c.columns.positions ∷ c.rows.positions
    ∷ c.columns.once ∷ c.rows.once
    ∷ c.columns.overlap ∷ c.rows.overlap
    ∷ c.cells.color ∷ c.cells.space ∷ c.cells.point ∷ c.cells.units
    ∷ c.literals ∷ c.words ∷ []
