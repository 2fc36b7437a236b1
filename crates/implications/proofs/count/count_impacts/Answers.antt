use mathlib.Core.Path.{◌≡◌, ap, ◌∙◌}
use mathlib.Core.List.{List}
use Prim.Native.Nat.{ℕ, ◌+◌, ◌*◌}
use native.Mathlib.Omega.{arith}
use lib.ListN.{get_or}
use Rattle.counts.proofs.Summing.{summing_next, summing_most}
use Rattle.implications.specs.Sizes.{impact_count}
use Rattle.implications.proofs.ProbeSizes.{counts_first, counts_done}
use Rattle.implications.proofs.count.count_impacts.Goals as goal
use Rattle.implications.proofs.count.count_impacts.Goals.{After-impact_count-total}

-- what is counted of the claim
count_is : (c : After-impact_count-total) → c.impact_count-total.result ≡ impact_count c.args.painted.shown.board.colors (get_or c.args.impacts.now (3 * c.loop-color.color-index + 2) 0)
count_is c = c.impact_count-total.ensures ∙ ap (λ (l : List ℕ). impact_count c.args.painted.shown.board.colors (get_or l 2 0)) (c.claims-color-items.ensures.claims c.loop-color.color-index (omega arith))

pub loop-color-init : goal.loop-color-init
loop-color-init c = counts_first c.args.painted.shown.board.colors c.args.impacts.now

pub overflow_add-total : goal.overflow_add-total
overflow_add-total c = omega (arith, summing_most c.loop-color.invariant (omega arith) (count_is (goal.at.overflow_add-total c).After-impact_count-total))

pub loop-color-preserved : goal.loop-color-preserved
loop-color-preserved c = summing_next c.loop-color.invariant (omega arith) (count_is (goal.at.loop-color-preserved c).After-impact_count-total)

pub returns : goal.returns
returns c = counts_done c.args.painted.shown.board.colors c.args.impacts.now c.loop-color.invariant (omega arith)
