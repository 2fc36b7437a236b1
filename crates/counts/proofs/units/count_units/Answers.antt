use native.Mathlib.Omega.{arith}
use Rattle.counts.proofs.Summing.{summing_next, summing_most}
use Rattle.counts.proofs.Countings.{units_first}
use Rattle.counts.proofs.units.count_units.Goals as goal

pub loop-mask-init : goal.loop-mask-init
loop-mask-init c = units_first _ c.args.masks.now

pub overflow_add-total : goal.overflow_add-total
overflow_add-total c = omega (arith, summing_most c.loop-mask.invariant c.loop-mask-test.true c.cell_units-total.ensures, c.requires.1)

pub loop-mask-preserved : goal.loop-mask-preserved
loop-mask-preserved c = summing_next c.loop-mask.invariant c.loop-mask-test.true c.cell_units-total.ensures
