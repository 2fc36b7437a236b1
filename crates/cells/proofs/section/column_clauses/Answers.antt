use mathlib.Core.Path.{refl}
use native.Mathlib.Omega.{arith}
use Rattle.lists.proofs.Emitting.{emit_room, emit_next}
use Rattle.sections.proofs.ClauseLists.{say_first, say_done}
use Rattle.cells.specs.Cells.{of_cell}
use Rattle.cells.specs.Held.{puzzle_given}
use Rattle.cells.proofs.section.column_clauses.Goals as goal

pub loop-y-init : goal.loop-y-init
loop-y-init c = (refl, say_first _ (of_cell (puzzle_given c.args.given) c.args.rule c.args.x) _ _ c.requires.x_in_bounds)

pub cell_clauses-to-requires-clause-y_in_bounds : goal.cell_clauses-to-requires-clause-y_in_bounds
cell_clauses-to-requires-clause-y_in_bounds c = emit_room c.loop-y.invariant.1 (omega arith)

pub loop-y-preserved : goal.loop-y-preserved
loop-y-preserved c = (refl, emit_next c.loop-y.invariant.1 (omega arith) c.cell_clauses-to.ensures)

pub returns : goal.returns
returns c = say_done _ (of_cell (puzzle_given c.args.given) c.args.rule c.args.x) c.loop-y.invariant.1 (omega arith)
