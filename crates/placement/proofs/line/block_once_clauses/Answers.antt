use native.Mathlib.Omega.{arith}
use Rattle.lists.proofs.Emitting.{emit_room, emit_next}
use Rattle.sections.specs.Sections.{at_most_one}
use Rattle.sections.proofs.ClauseLists.{say_first, say_done}
use Rattle.numbering.specs.Variables.{first_of}
use Rattle.numbering.specs.Held.{line_in}
use Rattle.placement.specs.Placement.{block_once}
use Rattle.placement.proofs.line.block_once_clauses.Goals as goal

pub loop-b-init : goal.loop-b-init
unfolding block_once
loop-b-init c = say_first _ (λ b. at_most_one (first_of (line_in c.args.line) b) (line_in c.args.line).positions) _ _ c.requires

pub at_most_one-to-requires-clause-n_in_bounds : goal.at_most_one-to-requires-clause-n_in_bounds
at_most_one-to-requires-clause-n_in_bounds c = rw (c.block_first.ensures.value, c.positions-p.ensures) (emit_room c.loop-b.invariant (omega arith))

pub loop-b-preserved : goal.loop-b-preserved
loop-b-preserved c = emit_next c.loop-b.invariant (omega arith) (rw (c.block_first.ensures.value, c.positions-p.ensures) at c.at_most_one-to.ensures)

pub returns : goal.returns
unfolding block_once
returns c = say_done _ (λ b. at_most_one (first_of (line_in c.args.line) b) (line_in c.args.line).positions) c.loop-b.invariant (omega arith)
