use native.Mathlib.Omega.{arith}
use Rattle.refusals.proofs.Answering.{handed}
use Rattle.truth.proofs.Testing.{testing_first, testing_room, testing_stop, testing_next, testing_done}
use Rattle.colored.proofs.EachTests.{mask_each}
use Rattle.pointed.proofs.precomputed.test_cell.Goals as goal

pub loop-r-init : goal.loop-r-init
loop-r-init c = testing_first _ _ _ _ _ (mask_each c.args.palette.now _ _)

pub test_color-requires-clause-countable : goal.test_color-requires-clause-countable
test_color-requires-clause-countable c = testing_room c.loop-r.invariant (omega arith) c.requires.countable

pub returns-in_err-to : goal.returns-in_err-to
returns-in_err-to c = rw (handed c.from_residual.result c.from_residual.ensures.1) (testing_stop c.loop-r.invariant (omega arith) _ c.in_err-to.ensures)

pub loop-r-preserved : goal.loop-r-preserved
loop-r-preserved c = testing_next c.loop-r.invariant (omega arith) c.in_ok-to.ensures

pub returns : goal.returns
returns c = testing_done c.loop-r.invariant (omega arith)
