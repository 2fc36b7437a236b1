use native.Mathlib.Omega.{arith}
use Rattle.runs.proofs.LineCells.{running_first, running_same, running_room, running_next, running_room_last, running_done, strided_in, strided_out, strided_cell}
use Rattle.runs.proofs.line.put_runs.Goals as goal

pub loop-i-init : goal.loop-i-init
loop-i-init c = running_first _ _ _ c.requires.1

pub loop-i-preserved-then-next-color : goal.loop-i-preserved-then-next-color
loop-i-preserved-then-next-color c =
    let h = c.loop-i-test.true in
    running_same c.loop-i.invariant (strided_in _ _ _ _ h) (strided_cell _ _ _ _ _ h) (omega arith)

pub put_run-to-requires : goal.put_run-to-requires
put_run-to-requires c =
    let h = c.loop-i-test.true in
    running_room c.loop-i.invariant (strided_in _ _ _ _ h) (strided_cell _ _ _ _ _ h) c.if-next-color.false

pub loop-i-preserved : goal.loop-i-preserved
loop-i-preserved c = running_next c.loop-i.invariant (strided_in _ _ _ _ c.loop-i-test.true) (strided_cell _ _ _ _ _ c.loop-i-test.true) c.if-next-color.false c.put_run-to.ensures

pub put_run-requires : goal.put_run-requires
put_run-requires c = running_room_last c.loop-i.invariant (strided_out _ _ _ _ c.loop-i-test.false)

pub returns : goal.returns
returns c = running_done c.loop-i.invariant (strided_out _ _ _ _ c.loop-i-test.false) c.put_run.ensures
