-- The ten sections tested one after another, in the groups in which that is done.
use mathlib.Core.Path.{◌≡◌, refl, ap, ◌∙◌}
use mathlib.Core.List.{List, [], ◌∷◌, ◌++◌, append_assoc, append-nil, flatten}
use Prim.Native.Nat.{◌+◌, ◌≤◌}
use native.Mathlib.Omega.{arith}
use lib.ListN.{length-append}
use Rattle.sections.specs.Sections.{Clause}
use Rattle.truth.specs.Tested.{Countable}
use Rattle.puzzles.specs.Puzzle.{Puzzle, lines}
use Rattle.puzzles.specs.Good.{Good}
use Rattle.boards.specs.Reading.{Stands}
use Rattle.boards.specs.declared.board.Board.{Board}
use Rattle.placement.specs.Placement.{of_lines, of_columns, of_rows}
use Rattle.placement.specs.declared.rule.Rule.{Rule}
use Rattle.placement.specs.declared.rule.Rule.TheVariants.{Positions, Once, Overlap}
use Rattle.cells.specs.Cells.{of_cells, point_once, precomputed_cells}
use Rattle.cells.specs.declared.rule.Rule.TheVariants.{Color, Space}
use Rattle.counts.specs.Families.{families, clauses}
use Rattle.counts.proofs.Totals.{counts_small}
use Rattle.clauses.specs.Groups.{both, line_sections, cell_sections}

joined_append : (a b : List (List Clause)) → flatten (a ++ b) ≡ flatten a ++ flatten b
unfolding flatten
joined_append [] b = refl
joined_append (s ∷ a) b = rw (joined_append a b, append_assoc)

-- the columns, then the rows
module _ (z : Puzzle) (rule : Rule) where
  pub both_are : {b : Board} → Stands b z → flatten (both z rule) ≡ of_lines z rule 0 b.width ++ of_lines z rule b.width b.height
  unfolding flatten
  both_are S = rw (S.width_is, S.height_is, append-nil)

pub lines_within : (z : Puzzle) {b : Board} → Stands b z → (0 + b.width ≤ lines z) × (b.width + b.height ≤ lines z)
lines_within z S = rw (S.width_is, S.height_is) (omega arith, omega arith)

module _ (z : Puzzle) where
  -- 1 to 6
  pub lines_are : flatten (line_sections z) ≡ flatten (both z Positions) ++ (flatten (both z Once) ++ flatten (both z Overlap))
  lines_are = joined_append (both z Positions) (both z Once ++ both z Overlap) ∙ ap (λ l. flatten (both z Positions) ++ l) (joined_append (both z Once) (both z Overlap))

  -- 7 to 10
  pub cells_are : flatten (cell_sections z) ≡ of_cells z Color ++ (of_cells z Space ++ (point_once z ++ precomputed_cells z))
  unfolding flatten
  cells_are = rw append-nil

  pub all_are : clauses z ≡ flatten (line_sections z) ++ flatten (cell_sections z)
  unfolding families
  all_are = joined_append (line_sections z) (cell_sections z)

  -- they are not many
  pub all_countable : Good z → Countable 0 (clauses z)
  unfolding families flatten
  all_countable G =
      let rest₉ = point_once z ++ (precomputed_cells z ++ []) in
      let rest₇ = of_cells z Color ++ (of_cells z Space ++ rest₉) in
      let rest₅ = of_columns z Overlap ++ (of_rows z Overlap ++ rest₇) in
      let rest₃ = of_columns z Once ++ (of_rows z Once ++ rest₅) in
      omega (
        arith,
        counts_small z G,
        length-append (of_columns z Positions) (of_rows z Positions ++ rest₃),
        length-append (of_rows z Positions) rest₃,
        length-append (of_columns z Once) (of_rows z Once ++ rest₅),
        length-append (of_rows z Once) rest₅,
        length-append (of_columns z Overlap) (of_rows z Overlap ++ rest₇),
        length-append (of_rows z Overlap) rest₇,
        length-append (of_cells z Color) (of_cells z Space ++ rest₉),
        length-append (of_cells z Space) rest₉,
        length-append (point_once z) (precomputed_cells z ++ []),
        length-append (precomputed_cells z) [],
      )
