use mathlib.Core.Path.{refl}
use Rattle.lines.proofs.ClueWords.{pair_next, pairs_done}
use Rattle.boards.proofs.Coloring.{gathering_next, gathering_done}
use Rattle.boards.proofs.colors.with_colors.Goals as goal

pub loop-color-init : goal.loop-color-init
loop-color-init c = record { same = refl }

pub loop-color-preserved : goal.loop-color-preserved
loop-color-preserved c = gathering_next c.loop-color.invariant (pair_next _ c.blocks-color-items.ensures c.loop-color-test.true) c.with-all.ensures

pub returns : goal.returns
returns c = gathering_done c.loop-color.invariant (pairs_done _ c.blocks-color-items.ensures c.loop-color-test.false)
