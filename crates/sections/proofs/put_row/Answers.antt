use Rattle.sections.proofs.Rows.{row_first, row_done, two_room}
use native.Mathlib.Omega.{arith}
use Rattle.lists.proofs.Emitting.{emit_room, emit_next, emit_kept}
use Rattle.literals.proofs.Words.{word_is}
use Rattle.sections.proofs.ClauseLists.{said}
use Rattle.sections.proofs.put_row.Goals as goal

pub loop-j-init : goal.loop-j-init
loop-j-init c = row_first _ _ _ _ _ c.requires.n_in_bounds

pub no-requires-in-loop-j : goal.no-requires-in-loop-j
no-requires-in-loop-j c = record { least = omega arith; most = omega arith }

pub put_two-to-requires : goal.put_two-to-requires
put_two-to-requires c = two_room _ _ _ _ (emit_room c.loop-j.invariant c.loop-j-test.true)

pub loop-j-preserved : goal.loop-j-preserved
loop-j-preserved c = emit_next c.loop-j.invariant c.loop-j-test.true (said _ (rw (word_is c.no-in-loop-j.result c.no-in-loop-j.type_inv, word_is c.no.result c.no.type_inv, c.no-in-loop-j.ensures, c.no.ensures) at c.put_two-to.ensures))

pub shape_of-out : goal.shape_of-out
shape_of-out c = emit_kept c.loop-j.invariant

pub returns : goal.returns
returns c = row_done _ _ _ c.loop-j.invariant c.loop-j-test.false
