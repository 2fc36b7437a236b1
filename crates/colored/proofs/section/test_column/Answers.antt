use mathlib.Core.Path.{refl}
use native.Mathlib.Omega.{arith}
use Rattle.refusals.proofs.Answering.{handed}
use Rattle.truth.proofs.Testing.{testing_first, testing_room, testing_stop, testing_next, testing_done}
use Rattle.colored.proofs.section.test_column.Goals as goal

pub loop-y-init : goal.loop-y-init
loop-y-init c = (refl, testing_first _ _ _ _ _ refl)

pub test_cell-requires-clause-countable : goal.test_cell-requires-clause-countable
test_cell-requires-clause-countable c = testing_room c.loop-y.invariant.1 (omega arith) c.requires.countable

pub returns-in_err-to : goal.returns-in_err-to
returns-in_err-to c = rw (handed c.from_residual.result c.from_residual.ensures.1) (testing_stop c.loop-y.invariant.1 (omega arith) _ c.in_err-to.ensures)

pub loop-y-preserved : goal.loop-y-preserved
loop-y-preserved c = (refl, testing_next c.loop-y.invariant.1 (omega arith) c.in_ok-to.ensures)

pub returns : goal.returns
returns c = testing_done c.loop-y.invariant.1 (omega arith)
