use mathlib.Core.Path.{ap, ◌∙◌}
use native.Mathlib.Omega.{arith}
use Prim.Native.Nat.{◌+◌}
use lib.ListN.{length, length-append}
use Rattle.std.specs.Slice.Iter.{chunks_exact_rest, chunks_exact_size}
use Rattle.grids.proofs.ClueSections.{Counting, counting_first, counting_next, counting_done, row_short}
use Rattle.grids.proofs.clues.count_clues.Goals as goal
use Rattle.grids.proofs.clues.count_clues.Goals.{After-count_words}

-- the row in hand is counted
next : (c : After-count_words) → Counting c.args.grid.height c.args.grid.width c.args.grid.cells.now (c.loop-row.count + (1 + c.count_words.result)) (length c.loop-row.yielded + 1) (chunks_exact_rest c.next.new.self) (chunks_exact_size c.next.new.self)
next c = counting_next c.args.grid.sized c.loop-row.invariant _ _ _ c.in-Some.ensures.steps.1.0 c.in-Some.ensures.steps.1.1 c.in-Some.ensures.steps.0 c.count_words.ensures

pub chunks_exact-row-items-requires : goal.chunks_exact-row-items-requires
chunks_exact-row-items-requires c = c.args.grid.sized.width_some

pub loop-row-init : goal.loop-row-init
loop-row-init c = counting_first (ap chunks_exact_rest c.into_iter-row-iterator.ensures.into_iter_gives ∙ c.chunks_exact-row-items.ensures.rest) (ap chunks_exact_size c.into_iter-row-iterator.ensures.into_iter_gives ∙ c.chunks_exact-row-items.ensures.size)

pub next-requires : goal.next-requires
next-requires c = omega (arith, c.loop-row.invariant.size_is, c.args.grid.sized.width_some)

pub count_words-requires : goal.count_words-requires
count_words-requires c = row_short c.args.grid.sized c.loop-row.invariant _ _ _ c.in-Some.ensures.steps.1.0 c.in-Some.ensures.steps.1.1 c.in-Some.ensures.steps.0

pub overflow_add-count : goal.overflow_add-count
overflow_add-count c =
    let n = (next (goal.at.overflow_add-count c).After-count_words).summing in
    omega (arith, n.few, n.within, c.args.grid.sized.height_most)

pub overflow_add-count-in-loop-row : goal.overflow_add-count-in-loop-row
overflow_add-count-in-loop-row c =
    let n = (next (goal.at.overflow_add-count-in-loop-row c).After-count_words).summing in
    omega (arith, n.few, n.within, c.args.grid.sized.height_most)

pub loop-row-preserved : goal.loop-row-preserved
loop-row-preserved c = rw (length-append c.loop-row.yielded) (next (goal.at.loop-row-preserved c).After-count_words)

pub returns : goal.returns
returns c = counting_done c.args.grid.sized c.loop-row.invariant c.in-None.ensures.steps.1.0
