use Rattle.literals.proofs.Words.{word_is}
use Rattle.implied.proofs.CellClauses.{implied_blank, implied_color, implied_other, one_room, one_wrote}
use Rattle.implied.proofs.impact.impact_clause.Goals as goal

pub put_clause-requires : goal.put_clause-requires
put_clause-requires c = rw (word_is c.no.result c.no.type_inv, c.no.ensures) (one_room _ (implied_blank c.args.premise.literals.now c.args.color c.args.hue c.args.u c.if-color-eq0.true) _ _ c.requires.u_in_bounds)

pub returns-then-color-eq0 : goal.returns-then-color-eq0
returns-then-color-eq0 c = one_wrote _ (implied_blank c.args.premise.literals.now c.args.color c.args.hue c.args.u c.if-color-eq0.true) (rw (word_is c.no.result c.no.type_inv, c.no.ensures) at c.put_clause.ensures)

pub put_clause-requires-then-hue-color : goal.put_clause-requires-then-hue-color
put_clause-requires-then-hue-color c = rw (word_is c.yes.result c.yes.type_inv, c.yes.ensures) (one_room _ (implied_color c.args.premise.literals.now c.args.color c.args.hue c.args.u c.if-color-eq0.false c.if-hue-color.true) _ _ c.requires.u_in_bounds)

pub returns-then-hue-color : goal.returns-then-hue-color
returns-then-hue-color c = one_wrote _ (implied_color c.args.premise.literals.now c.args.color c.args.hue c.args.u c.if-color-eq0.false c.if-hue-color.true) (rw (word_is c.yes.result c.yes.type_inv, c.yes.ensures) at c.put_clause-then-hue-color.ensures)

pub returns : goal.returns
returns c = implied_other c.args.premise.literals.now c.args.color c.args.hue c.args.u c.if-color-eq0.false c.if-hue-color.false _ _
