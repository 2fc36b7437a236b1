use native.Mathlib.Omega.{arith}
use Rattle.refusals.proofs.Answering.{handed}
use Rattle.truth.proofs.Testing.{testing_first, testing_room, testing_stop, testing_next, testing_done}
use Rattle.colored.proofs.EachTests.{column_each}
use Rattle.colored.proofs.ModelVariables.{cell_within}
use Rattle.pointed.proofs.once.test_column.Goals as goal

pub loop-y-init : goal.loop-y-init
loop-y-init c = testing_first _ _ _ _ _ (column_each _ _ _)

pub test_at_most_one-requires-clause-v_nonzero : goal.test_at_most_one-requires-clause-v_nonzero
test_at_most_one-requires-clause-v_nonzero c = rw c.cell_first.ensures.value (cell_within c.args.model.now c.requires.known.0 c.requires.known.2 c.requires.known.1 _ _ c.requires.x_lt_width (omega arith))

pub test_at_most_one-requires-clause-countable : goal.test_at_most_one-requires-clause-countable
test_at_most_one-requires-clause-countable c = rw c.cell_first.ensures.value (testing_room c.loop-y.invariant (omega arith) c.requires.countable)

pub returns-in_err-to : goal.returns-in_err-to
returns-in_err-to c = rw (handed c.from_residual.result c.from_residual.ensures.1) (testing_stop c.loop-y.invariant (omega arith) _ (rw c.cell_first.ensures.value at c.in_err-to.ensures))

pub loop-y-preserved : goal.loop-y-preserved
loop-y-preserved c = testing_next c.loop-y.invariant (omega arith) (rw c.cell_first.ensures.value at c.in_ok-to.ensures)

pub returns : goal.returns
returns c = testing_done c.loop-y.invariant (omega arith)
