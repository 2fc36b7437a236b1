use native.Mathlib.Omega.{arith}
use Rattle.lists.proofs.Emitting.{emit_room, emit_next}
use Rattle.implied.proofs.CellClauses.{premise_first, premise_done}
use Rattle.implied.proofs.premise.put_premise.Goals as goal

pub loop-r-init : goal.loop-r-init
loop-r-init c = premise_first c.args.palette.now _ _ _ c.requires.palette_in_bounds

pub put_literal-to-requires-clause-u_in_bounds : goal.put_literal-to-requires-clause-u_in_bounds
put_literal-to-requires-clause-u_in_bounds c = emit_room c.loop-r.invariant (omega arith)

pub loop-r-preserved : goal.loop-r-preserved
loop-r-preserved c = emit_next c.loop-r.invariant (omega arith) c.put_literal-to.ensures

pub returns : goal.returns
returns c = premise_done c.args.palette.now c.args.v c.args.color c.loop-r.invariant (omega arith)
