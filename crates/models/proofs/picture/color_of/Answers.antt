use Rattle.models.proofs.Showing.{looking_on, looking_off, looking_none}
use mathlib.Core.Path.{sym, ◌∙◌}
use Rattle.models.proofs.picture.color_of.Goals as goal

pub returns-then-on : goal.returns-then-on
returns-then-on c = looking_on _ _ _ c.loop-r.invariant c.loop-r-test.true (sym c.on.ensures ∙ c.if-on.true)

pub loop-r-preserved : goal.loop-r-preserved
loop-r-preserved c = looking_off _ _ _ c.loop-r.invariant c.loop-r-test.true (sym c.on.ensures ∙ c.if-on.false)

pub returns : goal.returns
returns c = looking_none _ _ _ c.loop-r.invariant c.loop-r-test.false
