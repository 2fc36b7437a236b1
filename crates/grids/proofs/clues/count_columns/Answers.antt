use native.Mathlib.Omega.{arith}
use Rattle.grids.proofs.ColumnWords.{descending_first, descending_next, descending_done}
use Rattle.grids.proofs.clues.count_columns.Goals as goal

pub loop-y-init : goal.loop-y-init
loop-y-init c = descending_first c.args.grid.sized c.count_begun-count.ensures

pub overflow_add-count : goal.overflow_add-count
overflow_add-count c =
    let next = descending_next c.args.grid.sized c.loop-y.invariant c.loop-y-test.true c.count_begun-count-in-loop-y.ensures in
    omega (arith, next.few, next.within, c.args.grid.sized.height_most)

pub loop-y-preserved : goal.loop-y-preserved
loop-y-preserved c = descending_next c.args.grid.sized c.loop-y.invariant c.loop-y-test.true c.count_begun-count-in-loop-y.ensures

pub returns : goal.returns
returns c = descending_done c.args.grid.sized c.loop-y.invariant c.loop-y-test.false
