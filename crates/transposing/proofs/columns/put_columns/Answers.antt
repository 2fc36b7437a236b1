use Rattle.lists.proofs.Emitting.{emit_next}
use Rattle.grids.proofs.Cells.{columns_first, columns_room, columns_done}
use Rattle.transposing.proofs.columns.put_columns.Goals as goal

pub loop-x-init : goal.loop-x-init
loop-x-init c = columns_first c.args.grid.sized _ c.requires

pub put_column-at-requires : goal.put_column-at-requires
put_column-at-requires c =
    let t = c.loop-x-test.true in
    (t, columns_room c.args.grid.sized c.loop-x.invariant t)

pub loop-x-preserved : goal.loop-x-preserved
loop-x-preserved c = emit_next c.loop-x.invariant c.loop-x-test.true c.put_column-at.ensures

pub returns : goal.returns
returns c = columns_done c.args.grid.sized c.loop-x.invariant c.loop-x-test.false
