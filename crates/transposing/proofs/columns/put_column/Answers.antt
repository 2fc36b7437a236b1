use Rattle.lists.proofs.Emitting.{one_first, one_next, one_done}
use Rattle.grids.specs.Grid.{column}
use Rattle.transposing.proofs.columns.put_column.Goals as goal

pub loop-y-init : goal.loop-y-init
loop-y-init c = one_first _ _ _ _ c.requires.1

pub loop-y-preserved : goal.loop-y-preserved
loop-y-preserved c = one_next c.loop-y.invariant c.loop-y-test.true

pub returns : goal.returns
unfolding column
returns c = one_done c.loop-y.invariant c.loop-y-test.false
