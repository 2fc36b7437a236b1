use mathlib.Core.Path.{sym, ◌∙◌}
use Rattle.dimacs.proofs.ClauseLines.{sign_room, signed_room, signed_wrote, plain_room, plain_wrote}
use Rattle.dimacs.proofs.write.put_literal.Goals as goal

pub bounds-out-at : goal.bounds-out-at
bounds-out-at c = sign_room c.args.l.word c.args.out.now _ c.requires (c.wide-v.ensures ∙ c.magnitude.ensures) (sym c.is_negative.ensures ∙ c.if-is_negative.true)

pub put_number-requires : goal.put_number-requires
put_number-requires c = signed_room c.args.l.word c.args.out.now _ c.requires (c.wide-v.ensures ∙ c.magnitude.ensures) (sym c.is_negative.ensures ∙ c.if-is_negative.true) 45

pub returns-then-is_negative : goal.returns-then-is_negative
returns-then-is_negative c = signed_wrote c.args.l.word c.args.out.now _ c.requires (c.wide-v.ensures ∙ c.magnitude.ensures) (sym c.is_negative.ensures ∙ c.if-is_negative.true) c.put_number.ensures

pub put_number-requires-2 : goal.put_number-requires-2
put_number-requires-2 c = plain_room c.args.l.word c.args.out.now _ c.requires (c.wide-v.ensures ∙ c.magnitude.ensures) (sym c.is_negative.ensures ∙ c.if-is_negative.false)

pub returns : goal.returns
returns c = plain_wrote c.args.l.word c.args.out.now _ c.requires (c.wide-v.ensures ∙ c.magnitude.ensures) (sym c.is_negative.ensures ∙ c.if-is_negative.false) c.put_number-2.ensures
