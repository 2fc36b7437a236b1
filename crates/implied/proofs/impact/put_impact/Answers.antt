use native.Mathlib.Omega.{arith}
use Rattle.lists.proofs.Emitting.{emit_room, emit_next}
use Rattle.implied.proofs.CellClauses.{impact_first, impact_done}
use Rattle.implied.proofs.impact.put_impact.Goals as goal

pub loop-r-init : goal.loop-r-init
loop-r-init c = impact_first c.args.palette.now c.args.premise.literals.now _ _ _ _ c.requires.color_in_bounds

pub impact_clause-to-requires-clause-u_in_bounds : goal.impact_clause-to-requires-clause-u_in_bounds
impact_clause-to-requires-clause-u_in_bounds c = emit_room c.loop-r.invariant (omega arith)

pub loop-r-preserved : goal.loop-r-preserved
loop-r-preserved c = emit_next c.loop-r.invariant (omega arith) c.impact_clause-to.ensures

pub returns : goal.returns
returns c = impact_done c.args.palette.now c.args.premise.literals.now c.args.v c.args.color c.loop-r.invariant (omega arith)
