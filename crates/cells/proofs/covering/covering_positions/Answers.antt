use native.Mathlib.Omega.{arith}
use Rattle.lines.specs.Runs.{run}
use Rattle.numbering.specs.Held.{line_in}
use Rattle.lists.proofs.Emitting.{emit_done}
use Rattle.cells.proofs.CoveringPositions.{covering_blocks}
use Rattle.cells.proofs.LinePositions.{BlockRead, searching_first, searching_other, block_within, searching_room, searching_next}
use Rattle.cells.proofs.covering.covering_positions.Goals as goal

pub loop-b-init : goal.loop-b-init
loop-b-init c = searching_first _ _ _ c.args.line.sound _ c.requires

pub loop-b-preserved-then-block-color : goal.loop-b-preserved-then-block-color
loop-b-preserved-then-block-color c = searching_other _ _ _ c.loop-b.invariant (omega arith) c.run_at-block.ensures c.if-block-color.true

pub covering_block-to-requires-clause-p_bound : goal.covering_block-to-requires-clause-p_bound
covering_block-to-requires-clause-p_bound c =
    let block : BlockRead (line_in c.args.line) c.loop-b.b c.block_first.result c.positions-p.result (run c.run_at-block.result) = record { below = omega arith; first_is = c.block_first.ensures.value; positions_is = c.positions-p.ensures; run_is = c.run_at-block.ensures } in
    block_within block c.args.line.sound

pub covering_block-to-requires-clause-t_in_bounds : goal.covering_block-to-requires-clause-t_in_bounds
covering_block-to-requires-clause-t_in_bounds c =
    let block : BlockRead (line_in c.args.line) c.loop-b.b c.block_first.result c.positions-p.result (run c.run_at-block.result) = record { below = omega arith; first_is = c.block_first.ensures.value; positions_is = c.positions-p.ensures; run_is = c.run_at-block.ensures } in
    searching_room _ _ _ c.loop-b.invariant block c.if-block-color.false

pub loop-b-preserved : goal.loop-b-preserved
loop-b-preserved c =
    let block : BlockRead (line_in c.args.line) c.loop-b.b c.block_first.result c.positions-p.result (run c.run_at-block.result) = record { below = omega arith; first_is = c.block_first.ensures.value; positions_is = c.positions-p.ensures; run_is = c.run_at-block.ensures } in
    searching_next _ _ _ c.loop-b.invariant block c.if-block-color.false c.covering_block-to.ensures

pub returns : goal.returns
returns c = rw covering_blocks (emit_done c.loop-b.invariant (omega arith))
