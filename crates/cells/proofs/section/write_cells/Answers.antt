use mathlib.Core.Path.{refl, ap, ◌∙◌}
use native.Mathlib.Omega.{arith}
use lib.IntN.{pos}
use Rattle.lists.proofs.Emitting.{emit_room, emit_next}
use Rattle.literals.proofs.Words.{word_is}
use Rattle.sections.proofs.Section.{count_room, count_first, count_done}
use Rattle.cells.proofs.BoardCells.{given_holds}
use Rattle.cells.proofs.ByColumn.{columns_are}
use Rattle.cells.proofs.section.write_cells.Goals as goal

pub bounds-out-0 : goal.bounds-out-0
bounds-out-0 c = count_room _ _ c.requires.rule_in_bounds

pub loop-x-init : goal.loop-x-init
loop-x-init c = (refl, count_first _ _ (columns_are (given_holds c.args.given) c.args.rule) c.args.out.now c.requires.rule_in_bounds _)

pub column_clauses-to-requires-clause-x_in_bounds : goal.column_clauses-to-requires-clause-x_in_bounds
column_clauses-to-requires-clause-x_in_bounds c = emit_room c.loop-x.invariant.1 (omega arith)

pub loop-x-preserved : goal.loop-x-preserved
loop-x-preserved c = (refl, emit_next c.loop-x.invariant.1 (omega arith) c.column_clauses-to.ensures)

pub returns : goal.returns
returns c = count_done _ _ (columns_are (given_holds c.args.given) c.args.rule) c.args.out.now c.requires.rule_in_bounds _ (word_is c.count_word.result c.count_word.type_inv ∙ c.count_word.ensures ∙ ap pos c.requires.count_value.0) c.loop-x.invariant.1 (omega arith)
