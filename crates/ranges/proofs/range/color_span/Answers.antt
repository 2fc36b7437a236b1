use native.Mathlib.Omega.{arith}
use Rattle.lines.proofs.ClueWords.{pair_next, pairs_done, walk_low}
use Rattle.ranges.proofs.Ranges.{spanning_first, spanning_walk, spanning_other, spanning_later, spanning_found, spanning_done, spanning_low}
use Rattle.ranges.proofs.range.color_span.Goals.{in-None, in-Some}
use Rattle.ranges.proofs.range.color_span.Goals as goal

pub loop-size-init : goal.loop-size-init
loop-size-init c = spanning_first _ _

pub overflow_add-start : goal.overflow_add-start
overflow_add-start c = omega (arith, c.requires, walk_low (spanning_walk c.loop-size.invariant (pair_next _ c.blocks-size-items.ensures c.loop-size-test.true) c.gap.ensures.0))

pub overflow_add-at : goal.overflow_add-at
overflow_add-at c = omega (arith, c.requires, walk_low (spanning_walk c.loop-size.invariant (pair_next _ c.blocks-size-items.ensures c.loop-size-test.true) c.gap.ensures.0))

pub loop-size-preserved-then-next-color : goal.loop-size-preserved-then-next-color
loop-size-preserved-then-next-color c = spanning_other c.loop-size.invariant (pair_next _ c.blocks-size-items.ensures c.loop-size-test.true) c.gap.ensures.0 c.if-next-color.true

pub loop-size-preserved : goal.loop-size-preserved
loop-size-preserved c =
    elim c.match-span.branch [
      | in-None w ↦ rw w.span-is (spanning_found c.loop-size.invariant (pair_next _ c.blocks-size-items.ensures c.loop-size-test.true) c.gap.ensures.0 w.in-None.is c.if-next-color.false)
      | in-Some w ↦ rw w.span-is (spanning_later c.loop-size.invariant (pair_next _ c.blocks-size-items.ensures c.loop-size-test.true) c.gap.ensures.0 w.in-Some.is c.if-next-color.false)
    ]

pub returns-clause-by_index : goal.returns-clause-by_index
returns-clause-by_index c = spanning_done c.loop-size.invariant (pairs_done _ c.blocks-size-items.ensures c.loop-size-test.false)

pub returns-clause-end_bound : goal.returns-clause-end_bound
returns-clause-end_bound c = spanning_low c.loop-size.invariant
