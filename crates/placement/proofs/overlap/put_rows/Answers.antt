use Rattle.lists.proofs.Emitting.{from_room, from_next}
use Rattle.placement.proofs.RowLaw.{rows_first, rows_done}
use Rattle.placement.proofs.overlap.put_rows.Goals as goal

pub loop-i-init : goal.loop-i-init
loop-i-init c = rows_first _ _ _ _ _ _ c.requires.p_in_bounds

pub put_row-to-requires-clause-n_in_bounds : goal.put_row-to-requires-clause-n_in_bounds
put_row-to-requires-clause-n_in_bounds c = from_room c.loop-i.invariant c.loop-i-test.true

pub loop-i-preserved : goal.loop-i-preserved
loop-i-preserved c = from_next c.loop-i.invariant c.loop-i-test.true c.put_row-to.ensures

pub returns : goal.returns
returns c = rows_done _ _ _ _ c.loop-i.invariant c.loop-i-test.false
