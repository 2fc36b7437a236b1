use mathlib.Core.Path.{refl, sym, ◌∙◌}
use Rattle.lines.proofs.ClueWords.{pair_next, pairs_done}
use Rattle.boards.proofs.Coloring.{knowing_not, knowing_next, knowing_done}
use Rattle.boards.proofs.colors.all_known.Goals as goal

pub loop-color-init : goal.loop-color-init
loop-color-init c = record { same = refl }

pub returns-then-not-has : goal.returns-then-not-has
returns-then-not-has c = knowing_not c.loop-color.invariant (pair_next _ c.blocks-color-items.ensures c.loop-color-test.true) (sym c.has.ensures ∙ c.if-not-has.true)

pub loop-color-preserved : goal.loop-color-preserved
loop-color-preserved c = knowing_next c.loop-color.invariant (pair_next _ c.blocks-color-items.ensures c.loop-color-test.true) (sym c.has.ensures ∙ c.if-not-has.false)

pub returns : goal.returns
returns c = knowing_done c.loop-color.invariant (pairs_done _ c.blocks-color-items.ensures c.loop-color-test.false)
