use native.Mathlib.Omega.{arith}
use mathlib.Core.Path.{ap, ◌∙◌}
use lib.ListN.{length}
use Rattle.literals.proofs.Words.{word_is}
use Rattle.dimacs.specs.Text.{literal_text}
use Rattle.dimacs.proofs.ClauseLines.{line_fits, line_next, line_done, clause_most}
use Rattle.dimacs.proofs.count.count_clause.Goals as goal

pub overflow_add-bytes : goal.overflow_add-bytes
overflow_add-bytes c = omega (arith, line_fits c.loop-word.invariant (omega (arith, c.loop-word-test.true)) (c.count_literal.ensures ∙ ap (λ l. length (literal_text l)) (c.of_word.ensures ∙ word_is _ (omega arith))) c.requires.0, c.requires.1)

pub overflow_add-bytes-in-loop-word : goal.overflow_add-bytes-in-loop-word
overflow_add-bytes-in-loop-word c = omega (arith, line_fits c.loop-word.invariant (omega (arith, c.loop-word-test.true)) (c.count_literal.ensures ∙ ap (λ l. length (literal_text l)) (c.of_word.ensures ∙ word_is _ (omega arith))) c.requires.0, c.requires.1)

pub loop-word-preserved : goal.loop-word-preserved
loop-word-preserved c = line_next c.loop-word.invariant (omega (arith, c.loop-word-test.true)) (c.count_literal.ensures ∙ ap (λ l. length (literal_text l)) (c.of_word.ensures ∙ word_is _ (omega arith)))

pub overflow_add-result : goal.overflow_add-result
overflow_add-result c = omega (arith, line_done c.loop-word.invariant (omega arith), clause_most c.args.clause.now c.requires.0, c.requires.1)

pub returns : goal.returns
returns c = line_done c.loop-word.invariant (omega arith)
