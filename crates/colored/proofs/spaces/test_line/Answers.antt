use native.Mathlib.Omega.{arith}
use Rattle.lines.specs.Runs.{run}
use Rattle.numbering.specs.Held.{line_in}
use Rattle.refusals.proofs.Answering.{handed}
use Rattle.truth.proofs.Testing.{testing_done}
use Rattle.cells.proofs.LinePositions.{BlockRead, block_within}
use Rattle.colored.proofs.ModelVariables.{block_variables}
use Rattle.colored.proofs.SpaceTests.{blocks_first, blocks_other, blocks_room, blocks_stop, blocks_next}
use Rattle.colored.proofs.spaces.test_line.Goals as goal

pub loop-b-init : goal.loop-b-init
loop-b-init c = blocks_first _ _ _ _ _ _

pub loop-b-preserved-then-block-color : goal.loop-b-preserved-then-block-color
loop-b-preserved-then-block-color c = blocks_other _ _ _ _ _ c.loop-b.invariant (omega arith) c.run_at-block.ensures c.if-block-color.true

pub test_block-requires-clause-by_index : goal.test_block-requires-clause-by_index
test_block-requires-clause-by_index c =
    let block : BlockRead (line_in c.args.trial.line) c.loop-b.b c.block_first-u.result c.positions-p.result (run c.run_at-block.result) = record { below = omega arith; first_is = c.block_first-u.ensures.value; positions_is = c.positions-p.ensures; run_is = c.run_at-block.ensures } in
    (block_variables c.args.trial.model.now block c.args.trial.known c.block_first-u.ensures.variables.0, c.requires.of, (block_within block c.args.trial.line.sound).1)

pub test_block-requires-clause-countable : goal.test_block-requires-clause-countable
test_block-requires-clause-countable c =
    let block : BlockRead (line_in c.args.trial.line) c.loop-b.b c.block_first-u.result c.positions-p.result (run c.run_at-block.result) = record { below = omega arith; first_is = c.block_first-u.ensures.value; positions_is = c.positions-p.ensures; run_is = c.run_at-block.ensures } in
    blocks_room _ _ _ _ _ c.loop-b.invariant block c.if-block-color.false c.requires.countable

pub returns-in_err-to : goal.returns-in_err-to
returns-in_err-to c =
    let block : BlockRead (line_in c.args.trial.line) c.loop-b.b c.block_first-u.result c.positions-p.result (run c.run_at-block.result) = record { below = omega arith; first_is = c.block_first-u.ensures.value; positions_is = c.positions-p.ensures; run_is = c.run_at-block.ensures } in
    rw (handed c.from_residual.result c.from_residual.ensures.1) (blocks_stop _ _ _ _ _ c.loop-b.invariant block c.if-block-color.false _ c.in_err-to.ensures)

pub loop-b-preserved : goal.loop-b-preserved
loop-b-preserved c =
    let block : BlockRead (line_in c.args.trial.line) c.loop-b.b c.block_first-u.result c.positions-p.result (run c.run_at-block.result) = record { below = omega arith; first_is = c.block_first-u.ensures.value; positions_is = c.positions-p.ensures; run_is = c.run_at-block.ensures } in
    blocks_next _ _ _ _ _ c.loop-b.invariant block c.if-block-color.false c.in_ok-to.ensures

pub returns : goal.returns
returns c = testing_done c.loop-b.invariant (omega arith)
