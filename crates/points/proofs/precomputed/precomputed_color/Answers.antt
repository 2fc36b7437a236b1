use mathlib.Core.Path.{sym, ◌∙◌}
use native.Mathlib.Omega.{arith}
use Rattle.literals.proofs.Words.{word_is}
use Rattle.sections.specs.Sections.{clause_words}
use Rattle.points.proofs.Masks.{solved_blank, solved_color, solved_other, unsolved_open, unsolved_excluded, unit_room, unit_wrote, none_wrote}
use Rattle.points.proofs.precomputed.precomputed_color.Goals as goal

pub put_clause-requires : goal.put_clause-requires
unfolding clause_words
put_clause-requires c = (omega arith, (omega arith, unit_room _ _ (solved_blank c.args.mask _ _ (cc) (sym c.has.ensures ∙ c.if-has.true)) _ _ c.requires.v_in_bounds))

pub returns-then-has : goal.returns-then-has
returns-then-has c = unit_wrote _ _ (solved_blank c.args.mask _ _ (cc) (sym c.has.ensures ∙ c.if-has.true)) (word_is c.no.result c.no.type_inv ∙ c.no.ensures) c.put_clause.ensures

pub put_clause-requires-then-there : goal.put_clause-requires-then-there
unfolding clause_words
put_clause-requires-then-there c = (omega arith, (omega arith, unit_room _ _ (solved_color c.args.mask _ _ (cc) (sym c.has.ensures ∙ c.if-has.false) (sym c.has-there.ensures ∙ c.if-there.true)) _ _ c.requires.v_in_bounds))

pub returns-then-there : goal.returns-then-there
returns-then-there c = unit_wrote _ _ (solved_color c.args.mask _ _ (cc) (sym c.has.ensures ∙ c.if-has.false) (sym c.has-there.ensures ∙ c.if-there.true)) (word_is c.yes.result c.yes.type_inv ∙ c.yes.ensures) c.put_clause-then-there.ensures

pub returns-then-solved : goal.returns-then-solved
returns-then-solved c = none_wrote _ (solved_other c.args.mask _ _ (cc) (sym c.has.ensures ∙ c.if-has.false) (sym c.has-there.ensures ∙ c.if-there.false)) _ _

pub returns-then-there-2 : goal.returns-then-there-2
returns-then-there-2 c = none_wrote _ (unsolved_open c.args.mask _ _ (cc) (sym c.has-there.ensures ∙ c.if-there-2.true)) _ _

pub put_clause-requires-2 : goal.put_clause-requires-2
unfolding clause_words
put_clause-requires-2 c = (omega arith, (omega arith, unit_room _ _ (unsolved_excluded c.args.mask _ _ (cc) (sym c.has-there.ensures ∙ c.if-there-2.false)) _ _ c.requires.v_in_bounds))

pub returns : goal.returns
returns c = unit_wrote _ _ (unsolved_excluded c.args.mask _ _ (cc) (sym c.has-there.ensures ∙ c.if-there-2.false)) (word_is c.no-2.result c.no-2.type_inv ∙ c.no-2.ensures) c.put_clause-2.ensures
