use native.Mathlib.Omega.{arith}
use Rattle.lists.proofs.Emitting.{emit_room, emit_next}
use Rattle.points.proofs.PointCells.{masks_first, masks_done}
use Rattle.points.proofs.precomputed.precomputed_cells_clauses.Goals as goal

pub loop-i-init : goal.loop-i-init
loop-i-init c = masks_first c.args.palette.now c.args.masks.now _ _ _ c.requires.v_in_bounds

pub precomputed_cell-to-requires-clause-v_in_bounds : goal.precomputed_cell-to-requires-clause-v_in_bounds
precomputed_cell-to-requires-clause-v_in_bounds c = emit_room c.loop-i.invariant (omega arith)

pub loop-i-preserved : goal.loop-i-preserved
loop-i-preserved c = emit_next c.loop-i.invariant (omega arith) c.precomputed_cell-to.ensures

pub returns : goal.returns
returns c = masks_done c.args.palette.now c.args.masks.now c.args.v c.loop-i.invariant (omega arith)
