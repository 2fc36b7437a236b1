use native.Mathlib.Omega.{arith}
use mathlib.Core.Path.{refl}
use mathlib.Core.List.{[], ◌∷◌}
use Prim.Native.Nat.{◌+◌, ◌-◌}
use borrow.Rule.Slice.PartMut.{put_mid}
use lib.ListN.{length}
use Rattle.cells.specs.Cells.{of_cells, point_once, precomputed_cells}
use Rattle.cells.specs.declared.rule.Rule.TheVariants.{Color, Space}
use Rattle.cells.specs.Held.{puzzle_given}
use Rattle.cells.proofs.BoardCells.{given_holds, given_shows}
use Rattle.counts.proofs.Totals.{counts_small}
use Rattle.clauses.specs.Groups.{cell_sections}
use Rattle.clauses.proofs.Tails.{Writing, writing_first, writing_front, writing_room, writing_next, writing_whole, one_wrote, one_room, writing_kept, writing_place, writing_done}
use Rattle.clauses.proofs.buffer.write_cell_sections.Goals as goal
use Rattle.clauses.proofs.buffer.write_cell_sections.Goals.{After-write_cells-at, After-write_cells-at-2}

-- behind sections 7 and 8
color : (c : After-write_cells-at) → let z = puzzle_given c.args.given in Writing (cell_sections z) (of_cells z Space ∷ point_once z ∷ precomputed_cells z ∷ []) c.args.out.now c.write_cells-at.new.out c.write_cells-at.result
color c =
    let z = puzzle_given c.args.given in
    writing_whole (of_cells z Color ∷ []) (of_cells z Space ∷ point_once z ∷ precomputed_cells z ∷ []) (writing_first _ _ c.requires.words_in_bounds) (one_wrote _ c.write_cells-at.ensures)

space : (c : After-write_cells-at-2) → let z = puzzle_given c.args.given in let out = c.write_cells-at.new.out in
    Writing (cell_sections z) (point_once z ∷ precomputed_cells z ∷ []) c.args.out.now (put_mid c.write_cells-at.result (length out - c.write_cells-at.result) out c.write_cells-at-2.new.out) (c.write_cells-at.result + c.write_cells-at-2.result)
space c =
    let z = puzzle_given c.args.given in
    writing_next (of_cells z Space ∷ []) (point_once z ∷ precomputed_cells z ∷ []) (writing_whole (of_cells z Color ∷ []) (of_cells z Space ∷ point_once z ∷ precomputed_cells z ∷ []) (writing_first _ _ c.requires.words_in_bounds) (one_wrote _ c.write_cells-at.ensures)) (one_wrote _ c.write_cells-at-2.ensures)

pub write_cells-at-requires-clause-count_value : goal.write_cells-at-requires-clause-count_value
write_cells-at-requires-clause-count_value c = (c.requires.cells_counted.color_is, omega (arith, counts_small _ c.args.given.reading.lines.ready.good))

pub write_cells-at-requires-clause-rule_in_bounds : goal.write_cells-at-requires-clause-rule_in_bounds
write_cells-at-requires-clause-rule_in_bounds c =
    let z = puzzle_given c.args.given in
    one_room _ (writing_front (of_cells z Color ∷ []) (of_cells z Space ∷ point_once z ∷ precomputed_cells z ∷ []) (writing_first _ _ c.requires.words_in_bounds) refl)

pub write_cells-at-requires-2-clause-count_value : goal.write_cells-at-requires-2-clause-count_value
write_cells-at-requires-2-clause-count_value c = (c.requires.cells_counted.space_is, omega (arith, counts_small _ c.args.given.reading.lines.ready.good))

pub write_cells-at-requires-2-clause-rule_in_bounds : goal.write_cells-at-requires-2-clause-rule_in_bounds
write_cells-at-requires-2-clause-rule_in_bounds c =
    let z = puzzle_given c.args.given in
    one_room _ (writing_room (of_cells z Space ∷ []) (point_once z ∷ precomputed_cells z ∷ []) (color (goal.at.write_cells-at-requires-2-clause-rule_in_bounds c).After-write_cells-at))

pub write_points-at-requires-clause-shows : goal.write_points-at-requires-clause-shows
write_points-at-requires-clause-shows c =
    let z = puzzle_given c.args.given in
    (z, given_shows (given_holds c.args.given), c.requires.cells_counted.point_is, one_room _ (writing_room (point_once z ∷ []) (precomputed_cells z ∷ []) (space (goal.at.write_points-at-requires-clause-shows c).After-write_cells-at-2)))

pub write_points-at-requires-clause-count_bound : goal.write_points-at-requires-clause-count_bound
write_points-at-requires-clause-count_bound c = omega (arith, counts_small _ c.args.given.reading.lines.ready.good)

pub overflow_add-at-2 : goal.overflow_add-at-2
overflow_add-at-2 c =
    let z = puzzle_given c.args.given in
    let W = writing_next (point_once z ∷ []) (precomputed_cells z ∷ []) (space (goal.at.overflow_add-at-2 c).After-write_cells-at-2) (one_wrote _ (c.write_points-at.ensures z (given_shows (given_holds c.args.given)))) in
    omega (arith, writing_place W, writing_kept W)

pub slice_bounds-write_precomputed-count : goal.slice_bounds-write_precomputed-count
slice_bounds-write_precomputed-count c =
    let z = puzzle_given c.args.given in
    let W = writing_next (point_once z ∷ []) (precomputed_cells z ∷ []) (space (goal.at.slice_bounds-write_precomputed-count c).After-write_cells-at-2) (one_wrote _ (c.write_points-at.ensures z (given_shows (given_holds c.args.given)))) in
    omega (arith, writing_place W)

pub slice_bounds-write_precomputed-start : goal.slice_bounds-write_precomputed-start
slice_bounds-write_precomputed-start c =
    let z = puzzle_given c.args.given in
    let W = writing_next (point_once z ∷ []) (precomputed_cells z ∷ []) (space (goal.at.slice_bounds-write_precomputed-start c).After-write_cells-at-2) (one_wrote _ (c.write_points-at.ensures z (given_shows (given_holds c.args.given)))) in
    omega (arith, writing_place W)

pub write_precomputed-at-requires-clause-count_value : goal.write_precomputed-at-requires-clause-count_value
write_precomputed-at-requires-clause-count_value c = (c.requires.cells_counted.units_is, omega (arith, counts_small _ c.args.given.reading.lines.ready.good))

pub write_precomputed-at-requires-clause-words_in_bounds : goal.write_precomputed-at-requires-clause-words_in_bounds
write_precomputed-at-requires-clause-words_in_bounds c =
    let z = puzzle_given c.args.given in
    let W = writing_next (point_once z ∷ []) (precomputed_cells z ∷ []) (space (goal.at.write_precomputed-at-requires-clause-words_in_bounds c).After-write_cells-at-2) (one_wrote _ (c.write_points-at.ensures z (given_shows (given_holds c.args.given)))) in
    one_room _ (writing_room (precomputed_cells z ∷ []) [] W)

pub returns : goal.returns
returns c =
    let z = puzzle_given c.args.given in
    let W = writing_next (point_once z ∷ []) (precomputed_cells z ∷ []) (space (goal.at.returns c).After-write_cells-at-2) (one_wrote _ (c.write_points-at.ensures z (given_shows (given_holds c.args.given)))) in
    writing_done (writing_next (precomputed_cells z ∷ []) [] W (one_wrote _ c.write_precomputed-at.ensures))
