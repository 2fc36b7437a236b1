use native.Mathlib.Omega.{arith}
use Rattle.refusals.proofs.Answering.{handed}
use Rattle.truth.proofs.Testing.{testing_first, testing_room, testing_stop, testing_next, testing_done}
use Rattle.placement.proofs.RowLaw.{non_overlap_later}
use Rattle.placed.proofs.overlap.test_overlaps.Goals as goal

pub loop-a-init : goal.loop-a-init
loop-a-init c = testing_first _ _ _ _ _ (non_overlap_later _)

pub test_later-requires-clause-countable : goal.test_later-requires-clause-countable
test_later-requires-clause-countable c = testing_room c.loop-a.invariant (omega arith) c.requires

pub returns-in_err-to : goal.returns-in_err-to
returns-in_err-to c = rw (handed c.from_residual.result c.from_residual.ensures.1) (testing_stop c.loop-a.invariant (omega arith) _ c.in_err-to.ensures)

pub loop-a-preserved : goal.loop-a-preserved
loop-a-preserved c = testing_next c.loop-a.invariant (omega arith) c.in_ok-to.ensures

pub returns : goal.returns
returns c = testing_done c.loop-a.invariant (omega arith)
