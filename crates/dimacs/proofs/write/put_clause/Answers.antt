use Rattle.dimacs.proofs.ClauseLines.{filling_next, literal_room, space_room, end_room, line_wrote}
use native.Mathlib.Omega.{arith}
use mathlib.Core.Path.{◌∙◌}
use Rattle.literals.proofs.Words.{word_is}
use Rattle.dimacs.proofs.write.put_clause.Goals as goal

pub put_literal-to-requires : goal.put_literal-to-requires
put_literal-to-requires c = literal_room c.loop-word.invariant (omega (arith, c.loop-word-test.true)) (c.of_word.ensures ∙ word_is _ (omega arith))

pub bounds-out-to : goal.bounds-out-to
bounds-out-to c = space_room c.loop-word.invariant (omega (arith, c.loop-word-test.true)) (c.of_word.ensures ∙ word_is _ (omega arith)) c.put_literal-to.ensures

pub loop-word-preserved : goal.loop-word-preserved
loop-word-preserved c = filling_next c.loop-word.invariant (omega (arith, c.loop-word-test.true)) (c.of_word.ensures ∙ word_is _ (omega arith)) c.put_literal-to.ensures

pub put_slice-requires : goal.put_slice-requires
put_slice-requires c = end_room c.loop-word.invariant (omega arith)

pub returns : goal.returns
returns c = line_wrote c.loop-word.invariant (omega arith) c.put_slice.ensures
