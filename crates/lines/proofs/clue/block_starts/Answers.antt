use native.Mathlib.Omega.{arith}
use Rattle.lines.proofs.ClueWords.{pair_next, pairs_done, pairs_length, starting_first, starting_low, starting_room, starting_next, starting_done}
use Rattle.lines.proofs.clue.block_starts.Goals as goal

pub loop-b-init : goal.loop-b-init
loop-b-init c = starting_first _ _ _ c.requires.clue_in_bounds

pub overflow_add-start : goal.overflow_add-start
overflow_add-start c = omega (arith, c.requires.clue_bound, starting_low c.loop-b.invariant (pair_next _ c.blocks-size-items.ensures c.loop-b-test.true) c.gap.ensures.0)

pub bounds-out-from : goal.bounds-out-from
bounds-out-from c = starting_room c.loop-b.invariant (pair_next _ c.blocks-size-items.ensures c.loop-b-test.true) c.gap.ensures.0

pub overflow_add-at : goal.overflow_add-at
overflow_add-at c = omega (arith, c.requires.clue_bound, starting_low c.loop-b.invariant (pair_next _ c.blocks-size-items.ensures c.loop-b-test.true) c.gap.ensures.0)

pub loop-b-preserved : goal.loop-b-preserved
loop-b-preserved c = starting_next c.loop-b.invariant (pair_next _ c.blocks-size-items.ensures c.loop-b-test.true) c.gap.ensures.0

pub returns : goal.returns
returns c = starting_done c.loop-b.invariant (pairs_done _ c.blocks-size-items.ensures c.loop-b-test.false) (omega (arith, c.loop-b.auto.b-end, c.loop-b-test.false, pairs_length c.args.clue.now c.blocks-size-items.ensures))
