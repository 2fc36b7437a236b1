use native.Mathlib.Omega.{arith}
use Rattle.lists.proofs.Emitting.{emit_room, emit_next, emit_kept}
use Rattle.sections.proofs.Rows.{once_first, once_done}
use Rattle.sections.proofs.at_most_one.Goals as goal

pub loop-i-init : goal.loop-i-init
loop-i-init c = once_first _ _ _ _ c.requires.n_in_bounds

pub put_row-to-requires-clause-variable : goal.put_row-to-requires-clause-variable
put_row-to-requires-clause-variable c = (record { least = omega arith; most = omega arith }, omega arith, omega arith)

pub put_row-to-requires-clause-n_in_bounds : goal.put_row-to-requires-clause-n_in_bounds
put_row-to-requires-clause-n_in_bounds c = emit_room c.loop-i.invariant c.loop-i-test.true

pub loop-i-preserved : goal.loop-i-preserved
loop-i-preserved c = emit_next c.loop-i.invariant c.loop-i-test.true c.put_row-to.ensures

pub shape_of-out : goal.shape_of-out
shape_of-out c = emit_kept c.loop-i.invariant

pub returns : goal.returns
returns c = once_done _ _ c.loop-i.invariant c.loop-i-test.false
