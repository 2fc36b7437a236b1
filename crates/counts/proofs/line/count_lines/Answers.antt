use mathlib.Core.Path.{ap, ◌∙◌}
use native.Mathlib.Omega.{arith}
use native.Mathlib.Nat.{mul-le-mul_left}
use Rattle.counts.specs.Formulas.{measured, over_lines}
use Rattle.counts.proofs.Bounded.{most_most}
use Rattle.counts.proofs.Summing.{summing_next, summing_most, summing_done}
use Rattle.counts.proofs.Countings.{lines_first, ready_few}
use Rattle.counts.proofs.line.count_lines.Goals as goal

pub loop-k-init : goal.loop-k-init
loop-k-init c = lines_first _ c.args.lines.ready.good _ _ _ c.requires

pub overflow_add-total : goal.overflow_add-total
overflow_add-total c = omega (arith, summing_most c.loop-k.invariant c.loop-k-test.true (c.line_count-total.ensures ∙ ap (measured c.args.measure) c.line.ensures), mul-le-mul_left c.args.n (most_most c.args.measure), ready_few _ _ c.args.lines.ready)

pub loop-k-preserved : goal.loop-k-preserved
loop-k-preserved c = summing_next c.loop-k.invariant c.loop-k-test.true (c.line_count-total.ensures ∙ ap (measured c.args.measure) c.line.ensures)

pub returns : goal.returns
returns c = unfold over_lines in summing_done c.loop-k.invariant c.loop-k-test.false
