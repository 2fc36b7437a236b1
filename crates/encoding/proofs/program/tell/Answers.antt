use mathlib.Core.Path.{◌∙◌}
use native.Mathlib.Omega.{arith}
use Rattle.encoding.proofs.Telling.{text_told, text_within, refusal_told}
use Rattle.encoding.proofs.program.tell.Goals as goal

pub returns-in-Err : goal.returns-in-Err
returns-in-Err c = (refusal_told c.args.input.now c.requires _ c.in-Err.ensures (c.wide.ensures ∙ c.number.ensures) c.place.ensures c.put_refused.ensures.0, omega (arith, c.put_refused.ensures.1))

pub returns-in-Ok : goal.returns-in-Ok
returns-in-Ok c = (text_told c.args.input.now c.requires c.in-Ok.ensures, text_within c.args.input.now c.requires c.in-Ok.ensures)
