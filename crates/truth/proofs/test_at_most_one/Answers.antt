use Rattle.truth.proofs.RowTests.{once_first}
use Rattle.truth.proofs.Testing.{testing_room, testing_stop, testing_next, testing_done}
use Rattle.refusals.proofs.Answering.{handed}
use Rattle.truth.proofs.test_at_most_one.Goals as goal

pub loop-i-init : goal.loop-i-init
loop-i-init c = once_first _ _ _ _

pub test_row-requires-clause-countable : goal.test_row-requires-clause-countable
test_row-requires-clause-countable c = testing_room c.loop-i.invariant c.loop-i-test.true c.requires.countable

pub returns-in_err-to : goal.returns-in_err-to
returns-in_err-to c = rw (handed c.from_residual.result c.from_residual.ensures.1) (testing_stop c.loop-i.invariant c.loop-i-test.true _ c.in_err-to.ensures)

pub loop-i-preserved : goal.loop-i-preserved
loop-i-preserved c = testing_next c.loop-i.invariant c.loop-i-test.true c.in_ok-to.ensures

pub returns : goal.returns
returns c = testing_done c.loop-i.invariant c.loop-i-test.false
