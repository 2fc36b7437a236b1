use mathlib.Core.Path.{sym, ◌∙◌}
use Rattle.truth.proofs.RowTests.{row_off, row_first, row_stop, row_next, row_done}
use Rattle.truth.proofs.test_row.Goals as goal

pub returns-then-not-on : goal.returns-then-not-on
returns-then-not-on c = row_off _ _ _ _ c.requires.x_nonzero.0 c.requires.x_nonzero.2 _ (sym c.on.ensures ∙ c.if-not-on.true)

pub loop-j-init : goal.loop-j-init
loop-j-init c = row_first _ _ _ _ c.requires.x_nonzero.0 c.requires.x_nonzero.2 _

pub returns-then-on : goal.returns-then-on
returns-then-on c = row_stop _ _ _ _ c.requires.x_nonzero.0 c.requires.x_nonzero.2 _ _ (sym c.on.ensures ∙ c.if-not-on.false) c.loop-j.invariant c.loop-j-test.true (sym c.on-in-loop-j.ensures ∙ c.if-on.true)

pub loop-j-preserved : goal.loop-j-preserved
loop-j-preserved c = row_next _ _ _ _ c.requires.x_nonzero.0 c.requires.x_nonzero.2 _ _ (sym c.on.ensures ∙ c.if-not-on.false) c.loop-j.invariant c.loop-j-test.true (sym c.on-in-loop-j.ensures ∙ c.if-on.false)

pub returns : goal.returns
returns c = row_done _ _ _ _ c.requires.x_nonzero.0 c.requires.x_nonzero.2 _ _ c.loop-j.invariant c.loop-j-test.false
