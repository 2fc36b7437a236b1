use Prim.Native.Nat.{◌*◌}
use native.Mathlib.Omega.{arith}
use Rattle.lines.proofs.ClueWords.{pair_next, pairs_done, pairs_length, pair_word, walk_first, walk_next, walk_done}
use borrow.Author.Rules.{rules}
use Rattle.lines.proofs.clue.min_space.Goals as goal

pub loop-size-init : goal.loop-size-init
loop-size-init c = (walk_first _, search rules)

pub overflow_add-at : goal.overflow_add-at
overflow_add-at c = omega (arith, c.loop-size.invariant.1, c.gap.ensures.1, c.requires, pairs_length c.args.clue.now c.blocks-size-items.ensures, c.loop-size-test.true)

pub overflow_add-at-in-loop-size : goal.overflow_add-at-in-loop-size
overflow_add-at-in-loop-size c =
    omega (arith, c.loop-size.invariant.1, c.gap.ensures.1, c.requires, pairs_length c.args.clue.now c.blocks-size-items.ensures, c.loop-size-test.true, pair_word c.args.clue.now c.blocks-size-items.ensures c.loop-size-test.true, c.type_inv.clue (2 * c.loop-size.size-index))

pub loop-size-preserved : goal.loop-size-preserved
loop-size-preserved c = (
  rw (c.from.ensures, c.from-in-loop-size.ensures, c.gap.ensures.0) (walk_next c.loop-size.invariant.0 (pair_next _ c.blocks-size-items.ensures c.loop-size-test.true)),
  omega (arith, c.loop-size.invariant.1, c.gap.ensures.1, pair_word c.args.clue.now c.blocks-size-items.ensures c.loop-size-test.true, c.type_inv.clue (2 * c.loop-size.size-index)),
)

pub returns : goal.returns
returns c = walk_done c.loop-size.invariant.0 (pairs_done _ c.blocks-size-items.ensures c.loop-size-test.false)
