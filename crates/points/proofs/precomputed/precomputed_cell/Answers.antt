use Rattle.points.proofs.PointCells.{mask_first, mask_done}
use native.Mathlib.Omega.{arith}
use Rattle.lists.proofs.Emitting.{emit_room, emit_next}
use Rattle.points.proofs.precomputed.precomputed_cell.Goals as goal

pub loop-r-init : goal.loop-r-init
loop-r-init c = mask_first _ _ _ _ _ c.requires.v_in_bounds

pub precomputed_color-to-requires-clause-v_in_bounds : goal.precomputed_color-to-requires-clause-v_in_bounds
precomputed_color-to-requires-clause-v_in_bounds c = emit_room c.loop-r.invariant (omega arith)

pub loop-r-preserved : goal.loop-r-preserved
loop-r-preserved c = emit_next c.loop-r.invariant (omega arith) c.precomputed_color-to.ensures

pub returns : goal.returns
returns c = mask_done c.args.palette.now c.args.mask c.args.v c.loop-r.invariant (omega arith)
