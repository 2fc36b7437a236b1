use native.Mathlib.Omega.{arith}
use Rattle.refusals.proofs.Answering.{handed}
use Rattle.truth.proofs.Testing.{testing_first, testing_room, testing_stop, testing_next, testing_done}
use Rattle.colored.proofs.EachTests.{masks_each}
use Rattle.pointed.proofs.precomputed.test_masks.Goals as goal

pub loop-i-init : goal.loop-i-init
loop-i-init c = testing_first _ _ _ _ _ (masks_each c.args.palette.now c.args.masks.now _)

pub test_cell-requires-clause-countable : goal.test_cell-requires-clause-countable
test_cell-requires-clause-countable c = testing_room c.loop-i.invariant (omega arith) c.requires.countable

pub returns-in_err-to : goal.returns-in_err-to
returns-in_err-to c = rw (handed c.from_residual.result c.from_residual.ensures.1) (testing_stop c.loop-i.invariant (omega arith) _ c.in_err-to.ensures)

pub loop-i-preserved : goal.loop-i-preserved
loop-i-preserved c = testing_next c.loop-i.invariant (omega arith) c.in_ok-to.ensures

pub returns : goal.returns
returns c = testing_done c.loop-i.invariant (omega arith)
