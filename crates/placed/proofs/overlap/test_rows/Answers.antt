use native.Mathlib.Omega.{arith}
use Rattle.refusals.proofs.Answering.{handed}
use Rattle.truth.proofs.Testing.{testing_from, testing_room, testing_stop, testing_next, testing_done}
use Rattle.truth.proofs.RowTests.{row_length}
use Rattle.placed.proofs.BlockTests.{rows_rest}
use Rattle.placed.proofs.overlap.test_rows.Goals as goal

pub loop-i-init : goal.loop-i-init
loop-i-init c = (omega arith, testing_from _ _ _ _ _ _ (rows_rest _ _ _ _))

-- the room for a row's places is told by its length alone, whatever its variables
pub test_row-requires-clause-countable : goal.test_row-requires-clause-countable
test_row-requires-clause-countable c = rw row_length (rw row_length at (testing_room c.loop-i.invariant.1 c.loop-i-test.true c.requires.countable))

pub returns-in_err-to : goal.returns-in_err-to
returns-in_err-to c = rw (handed c.from_residual.result c.from_residual.ensures.1) (testing_stop c.loop-i.invariant.1 c.loop-i-test.true _ c.in_err-to.ensures)

pub loop-i-preserved : goal.loop-i-preserved
loop-i-preserved c = (omega (arith, c.loop-i.invariant.0), testing_next c.loop-i.invariant.1 c.loop-i-test.true c.in_ok-to.ensures)

pub returns : goal.returns
returns c = testing_done c.loop-i.invariant.1 c.loop-i-test.false
