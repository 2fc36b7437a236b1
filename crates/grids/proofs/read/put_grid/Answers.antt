use mathlib.Core.Path.{◌∙◌}
use Rattle.grids.proofs.Cells.{sized_most}
use Rattle.grids.proofs.GridWords.{columns_room, rows_room, cells_room, grid_wrote}
use Rattle.grids.proofs.read.put_grid.Goals as goal

pub put_clues-rows-requires-clause-cells_in_bounds : goal.put_clues-rows-requires-clause-cells_in_bounds
put_clues-rows-requires-clause-cells_in_bounds c = columns_room c.args.grid.sized c.args.out.now c.requires.1

pub put_clues-cells-requires-clause-cells_in_bounds : goal.put_clues-cells-requires-clause-cells_in_bounds
put_clues-cells-requires-clause-cells_in_bounds c =
    let S = c.args.grid.sized in
    let p = c.requires.1 in
    let a = c.put_clues-rows in
    rows_room S _ p a.ensures a.auto.out

pub put_masks-requires : goal.put_masks-requires
put_masks-requires c =
    let a = c.put_clues-rows in
    let S = c.args.grid.sized in
    let p = c.requires.1 in
    let k = a.auto.out in
    (sized_most S, cells_room S _ p a.ensures k c.put_clues-cells.ensures (c.put_clues-cells.auto.out ∙ k))

pub returns : goal.returns
returns c =
    let a = c.put_clues-rows in
    let S = c.args.grid.sized in
    let p = c.requires.1 in
    grid_wrote S _ p a.ensures a.auto.out c.put_clues-cells.ensures c.cells_mask.ensures c.put_masks.ensures
