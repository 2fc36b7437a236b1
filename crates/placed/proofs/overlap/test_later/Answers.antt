use mathlib.Core.Path.{◌≡◌}
use native.Mathlib.Omega.{arith}
use Rattle.refusals.proofs.Answering.{handed}
use Rattle.truth.proofs.Testing.{testing_from, testing_room, testing_stop, testing_next, testing_done}
use Rattle.numbering.proofs.SoundLines.{sound_few}
use Rattle.numbering.specs.Held.{line_in}
use Rattle.placement.specs.Placement.{conflicts}
use Rattle.placement.specs.PairRows.{rows_from}
use Rattle.placement.proofs.RowLaw.{conflicts_rows}
use Rattle.placed.proofs.BlockTests.{later_rest}
use Rattle.placed.proofs.overlap.test_later.Goals as goal

-- `pair` in these answers: the pair's rows, by the distance that was found

pub overflow_step-b : goal.overflow_step-b
overflow_step-b c = omega (arith, sound_few c.args.trial.line.sound)

pub loop-b-init : goal.loop-b-init
loop-b-init c = (omega arith, testing_from _ _ _ _ _ _ (later_rest _ _))

pub test_rows-requires-clause-countable : goal.test_rows-requires-clause-countable
test_rows-requires-clause-countable c =
    let pair : conflicts (line_in c.args.trial.line) c.args.a c.loop-b.b ≡ rows_from c.block_first-va.result c.block_first.result c.distance_of-d.result c.positions-p.result = rw (c.block_first-va.ensures.value, c.block_first.ensures.value, c.positions-p.ensures) (conflicts_rows _ _ _ c.distance_of-d.ensures.meets) in
    rw pair at (testing_room c.loop-b.invariant.1 (omega arith) c.requires.countable)

pub returns-in_err-to : goal.returns-in_err-to
returns-in_err-to c =
    let pair : conflicts (line_in c.args.trial.line) c.args.a c.loop-b.b ≡ rows_from c.block_first-va.result c.block_first.result c.distance_of-d.result c.positions-p.result = rw (c.block_first-va.ensures.value, c.block_first.ensures.value, c.positions-p.ensures) (conflicts_rows _ _ _ c.distance_of-d.ensures.meets) in
    rw (handed c.from_residual.result c.from_residual.ensures.1) (testing_stop c.loop-b.invariant.1 (omega arith) _ (rw pair c.in_err-to.ensures))

pub loop-b-preserved : goal.loop-b-preserved
loop-b-preserved c =
    let pair : conflicts (line_in c.args.trial.line) c.args.a c.loop-b.b ≡ rows_from c.block_first-va.result c.block_first.result c.distance_of-d.result c.positions-p.result = rw (c.block_first-va.ensures.value, c.block_first.ensures.value, c.positions-p.ensures) (conflicts_rows _ _ _ c.distance_of-d.ensures.meets) in
    (omega (arith, c.loop-b.invariant.0), testing_next c.loop-b.invariant.1 (omega arith) (rw pair c.in_ok-to.ensures))

pub returns : goal.returns
returns c = testing_done c.loop-b.invariant.1 (omega arith)
