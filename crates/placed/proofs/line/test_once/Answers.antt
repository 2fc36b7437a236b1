use mathlib.Core.Path.{refl}
use native.Mathlib.Omega.{arith}
use Rattle.refusals.proofs.Answering.{handed}
use Rattle.truth.proofs.Testing.{testing_first, testing_room, testing_stop, testing_next, testing_done}
use Rattle.placement.specs.Placement.{block_once}
use Rattle.placed.proofs.line.test_once.Goals as goal

pub loop-b-init : goal.loop-b-init
unfolding block_once
loop-b-init c = testing_first _ _ _ _ _ refl

pub test_at_most_one-requires-clause-countable : goal.test_at_most_one-requires-clause-countable
test_at_most_one-requires-clause-countable c = rw (c.block_first.ensures.value, c.positions-p.ensures) (testing_room c.loop-b.invariant (omega arith) c.requires)

pub returns-in_err-to : goal.returns-in_err-to
returns-in_err-to c = rw (handed c.from_residual.result c.from_residual.ensures.1) (testing_stop c.loop-b.invariant (omega arith) _ (rw (c.block_first.ensures.value, c.positions-p.ensures) at c.in_err-to.ensures))

pub loop-b-preserved : goal.loop-b-preserved
loop-b-preserved c = testing_next c.loop-b.invariant (omega arith) (rw (c.block_first.ensures.value, c.positions-p.ensures) at c.in_ok-to.ensures)

pub returns : goal.returns
returns c = testing_done c.loop-b.invariant (omega arith)
