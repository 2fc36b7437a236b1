use native.Mathlib.Omega.{arith}
use Rattle.lists.proofs.Emitting.{emit_room, emit_next}
use Rattle.sections.proofs.ClauseLists.{say_first, say_done}
use Rattle.numbering.specs.Held.{line_in}
use Rattle.placement.specs.PairRows.{later_pairs}
use Rattle.placement.proofs.RowLaw.{non_overlap_later}
use Rattle.placement.proofs.overlap.non_overlap_clauses.Goals as goal

pub loop-a-init : goal.loop-a-init
loop-a-init c = say_first _ (later_pairs (line_in c.args.line)) _ _ (rw (← non_overlap_later (line_in c.args.line)) c.requires)

pub later_clauses-to-requires-clause-a_in_bounds : goal.later_clauses-to-requires-clause-a_in_bounds
later_clauses-to-requires-clause-a_in_bounds c = emit_room c.loop-a.invariant (omega arith)

pub loop-a-preserved : goal.loop-a-preserved
loop-a-preserved c = emit_next c.loop-a.invariant (omega arith) c.later_clauses-to.ensures

pub returns : goal.returns
returns c = rw (non_overlap_later (line_in c.args.line)) (say_done _ (later_pairs (line_in c.args.line)) c.loop-a.invariant (omega arith))
