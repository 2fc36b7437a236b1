use mathlib.Core.Path.{refl}
use native.Mathlib.Omega.{arith}
use Rattle.refusals.proofs.Answering.{handed}
use Rattle.truth.proofs.Testing.{testing_first, testing_room, testing_stop, testing_next, testing_done}
use Rattle.points.proofs.PointCells.{columns_once}
use Rattle.pointed.proofs.once.test_points.Goals as goal

pub loop-x-init : goal.loop-x-init
loop-x-init c = testing_first _ _ _ _ _ refl

pub test_column-requires-clause-countable : goal.test_column-requires-clause-countable
test_column-requires-clause-countable c = testing_room c.loop-x.invariant (omega arith) (rw (columns_once c.requires.1) at c.requires.3)

pub returns-in_err-to : goal.returns-in_err-to
returns-in_err-to c = λ z S. rw (handed c.from_residual.result c.from_residual.ensures.1, columns_once S) (testing_stop c.loop-x.invariant (omega arith) _ c.in_err-to.ensures)

pub loop-x-preserved : goal.loop-x-preserved
loop-x-preserved c = testing_next c.loop-x.invariant (omega arith) c.in_ok-to.ensures

pub returns : goal.returns
returns c = λ z S. rw (columns_once S) (testing_done c.loop-x.invariant (omega arith))
