use mathlib.Core.Path.{refl}
use native.Mathlib.Omega.{arith}
use Rattle.lists.proofs.Emitting.{emit_room, emit_next}
use Rattle.points.proofs.PointCells.{once_first, once_done}
use Rattle.points.proofs.once.point_once_clauses.Goals as goal

pub loop-y-init : goal.loop-y-init
loop-y-init c = (refl, once_first c.args.shown.board _ _ _ _ c.requires.x_in_bounds)

pub at_most_one-to-requires-clause-n_in_bounds : goal.at_most_one-to-requires-clause-n_in_bounds
at_most_one-to-requires-clause-n_in_bounds c = rw c.cell_first.ensures.value (emit_room c.loop-y.invariant.1 (omega arith))

pub loop-y-preserved : goal.loop-y-preserved
loop-y-preserved c = (refl, emit_next c.loop-y.invariant.1 (omega arith) (rw c.cell_first.ensures.value at c.at_most_one-to.ensures))

pub returns : goal.returns
returns c = once_done c.args.shown.board _ _ c.loop-y.invariant.1 (omega arith)
