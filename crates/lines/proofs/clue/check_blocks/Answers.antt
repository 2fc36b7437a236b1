use mathlib.Core.Path.{sym, ◌∙◌}
use Rattle.lines.proofs.ClueWords.{pair_next, pairs_done, checking_first, check_size, check_color, check_next, check_done}
use Rattle.lines.proofs.clue.check_blocks.Goals as goal

pub loop-b-init : goal.loop-b-init
loop-b-init c = checking_first _

pub returns-then-size-eq0 : goal.returns-then-size-eq0
returns-then-size-eq0 c = check_size c.loop-b.invariant (pair_next _ c.blocks-size-items.ensures c.loop-b-test.true) c.if-size-eq0.true

pub returns-then-off_color : goal.returns-then-off_color
returns-then-off_color c =
    check_color c.loop-b.invariant (pair_next _ c.blocks-size-items.ensures c.loop-b-test.true)
    c.if-size-eq0.false (sym c.off_color.ensures ∙ c.if-off_color.true)

pub loop-b-preserved : goal.loop-b-preserved
loop-b-preserved c =
    check_next c.loop-b.invariant (pair_next _ c.blocks-size-items.ensures c.loop-b-test.true)
    c.if-size-eq0.false (sym c.off_color.ensures ∙ c.if-off_color.false)

pub returns : goal.returns
returns c = check_done c.loop-b.invariant (pairs_done _ c.blocks-size-items.ensures c.loop-b-test.false)
