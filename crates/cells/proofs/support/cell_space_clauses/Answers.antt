use native.Mathlib.Omega.{arith}
use Rattle.lists.proofs.Emitting.{emit_room, emit_next}
use Rattle.literals.proofs.Words.{word_is}
use Rattle.sections.proofs.ClauseLists.{said}
use Rattle.sections.proofs.Rows.{two_room}
use Rattle.cells.proofs.Ruling.{space_first, space_done}
use Rattle.cells.proofs.support.cell_space_clauses.Goals as goal

pub loop-u-init : goal.loop-u-init
loop-u-init c = space_first _ _ _ _ c.requires.found_in_bounds

pub put_two-to-requires : goal.put_two-to-requires
put_two-to-requires c = two_room _ _ _ _ (emit_room c.loop-u.invariant (omega arith))

pub loop-u-preserved : goal.loop-u-preserved
loop-u-preserved c = emit_next c.loop-u.invariant (omega arith) (said _ (rw (word_is c.yes.result c.yes.type_inv, word_is c.no.result c.no.type_inv, c.yes.ensures, c.no.ensures) at c.put_two-to.ensures))

pub returns : goal.returns
returns c = space_done _ _ c.loop-u.invariant (omega arith)
