use mathlib.Core.Path.{refl}
use native.Mathlib.Omega.{arith}
use Rattle.refusals.proofs.Answering.{handed}
use Rattle.truth.proofs.Testing.{testing_first, testing_room, testing_stop, testing_next, testing_done}
use Rattle.colored.proofs.Sides.{side_at}
use Rattle.colored.proofs.spaces.test_spaces.Goals as goal

pub loop-l-init : goal.loop-l-init
loop-l-init c = testing_first _ 2 _ _ _ refl

pub test_line-requires-clause-countable : goal.test_line-requires-clause-countable
test_line-requires-clause-countable c = rw (c.line.ensures.line, side_at c.args.x c.args.row c.args.y _ (0, 0) c.loop-l-test.true) (testing_room c.loop-l.invariant c.loop-l-test.true c.requires.countable)

pub returns-in_err-to : goal.returns-in_err-to
returns-in_err-to c = rw (handed c.from_residual.result c.from_residual.ensures.1) (testing_stop c.loop-l.invariant c.loop-l-test.true _ (rw (c.line.ensures.line, c.line.ensures.model, side_at c.args.x c.args.row c.args.y _ (0, 0) c.loop-l-test.true) at c.in_err-to.ensures))

pub loop-l-preserved : goal.loop-l-preserved
loop-l-preserved c = testing_next c.loop-l.invariant c.loop-l-test.true (rw (c.line.ensures.line, c.line.ensures.model, side_at c.args.x c.args.row c.args.y _ (0, 0) c.loop-l-test.true) at c.in_ok-to.ensures)

pub returns : goal.returns
returns c = testing_done c.loop-l.invariant (omega arith)
