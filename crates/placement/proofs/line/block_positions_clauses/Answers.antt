use mathlib.Core.List.{[], ◌∷◌}
use native.Mathlib.Omega.{arith}
use Rattle.lists.specs.Each.{tab}
use Rattle.lists.proofs.Emitting.{emit_room, emit_next}
use Rattle.sections.specs.Sections.{at_least_one}
use Rattle.sections.proofs.ClauseLists.{say_first, say_done, said, clauses_one}
use Rattle.numbering.specs.Variables.{first_of}
use Rattle.numbering.specs.Held.{line_in}
use Rattle.placement.specs.Placement.{block_positions}
use Rattle.placement.proofs.line.block_positions_clauses.Goals as goal

pub loop-b-init : goal.loop-b-init
unfolding block_positions tab
loop-b-init c = say_first _ (λ b. at_least_one (first_of (line_in c.args.line) b) (line_in c.args.line).positions ∷ []) _ _ c.requires

pub at_least_one-to-requires-clause-n_in_bounds : goal.at_least_one-to-requires-clause-n_in_bounds
at_least_one-to-requires-clause-n_in_bounds c = rw (c.block_first.ensures.value, c.positions-p.ensures) (rw clauses_one at (emit_room c.loop-b.invariant (omega arith)))

pub loop-b-preserved : goal.loop-b-preserved
loop-b-preserved c = emit_next c.loop-b.invariant (omega arith) (said _ (rw (c.block_first.ensures.value, c.positions-p.ensures) at c.at_least_one-to.ensures))

pub returns : goal.returns
unfolding block_positions tab
returns c = say_done _ (λ b. at_least_one (first_of (line_in c.args.line) b) (line_in c.args.line).positions ∷ []) c.loop-b.invariant (omega arith)
