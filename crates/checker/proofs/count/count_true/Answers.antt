use Rattle.checker.proofs.Counting.{trues_none, trues_next, trues_most}
use Rattle.truth.specs.Truth.{value}
use mathlib.Core.Path.{ap, ◌∙◌}
use native.Mathlib.Omega.{arith}
use Prim.Native.Nat.{◌+◌}
use mir.Val.{bool_byte}
use Rattle.checker.proofs.count.count_true.Goals as goal

pub loop-r-init : goal.loop-r-init
loop-r-init c = trues_none _ _

pub overflow_add-total : goal.overflow_add-total
overflow_add-total c = omega (arith, trues_next _ _ _ c.loop-r.invariant (c.from-total.ensures ∙ ap bool_byte c.on.ensures), trues_most (value c.args.model.now) c.args.v (c.loop-r.r + 1))

pub loop-r-preserved : goal.loop-r-preserved
loop-r-preserved c = trues_next _ _ _ c.loop-r.invariant (c.from-total.ensures ∙ ap bool_byte c.on.ensures)
