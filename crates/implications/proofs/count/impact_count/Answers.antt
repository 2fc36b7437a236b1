use mathlib.Core.Path.{sym, ap, ◌∙◌}
use borrow.Author.Tests.{eq-eqb, ne_eqb}
use lib.ListN.{length}
use Rattle.implications.specs.Sizes.{impact_count}
use Rattle.implications.proofs.count.impact_count.Goals as goal

pub returns-then-color-eq0 : goal.returns-then-color-eq0
returns-then-color-eq0 c = unfold impact_count in rw (eq-eqb _ _ c.if-color-eq0.true) (ap length c.args.painted.palette_is)

pub returns-then-has : goal.returns-then-has
returns-then-has c = unfold impact_count in rw (ne_eqb _ _ c.if-color-eq0.false, sym c.has.ensures ∙ c.if-has.true)

pub returns : goal.returns
returns c = unfold impact_count in rw (ne_eqb _ _ c.if-color-eq0.false, sym c.has.ensures ∙ c.if-has.false)
