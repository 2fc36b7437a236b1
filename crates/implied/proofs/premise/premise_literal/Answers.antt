use mathlib.Core.Path.{◌∙◌}
use borrow.Author.Tests.{eq-eqb, ne_eqb}
use Rattle.literals.proofs.Words.{word_is}
use Rattle.implied.specs.ByWords.{premise_literal}
use Rattle.implied.proofs.premise.premise_literal.Goals as goal

pub returns-then-color-eq0 : goal.returns-then-color-eq0
returns-then-color-eq0 c = unfold premise_literal in rw (eq-eqb _ 0 c.if-color-eq0.true) (word_is c.yes.result c.yes.type_inv ∙ c.yes.ensures)

pub returns : goal.returns
returns c = unfold premise_literal in rw (ne_eqb _ 0 c.if-color-eq0.false) (word_is c.no.result c.no.type_inv ∙ c.no.ensures)
