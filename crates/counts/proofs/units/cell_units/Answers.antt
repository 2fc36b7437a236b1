use native.Mathlib.Omega.{arith}
use mathlib.Core.Path.{sym, ◌∙◌}
use Rattle.counts.proofs.UnitClauses.{units_most_ones, units_unsolved, units_blank, units_color}
use Rattle.counts.proofs.units.cell_units.Goals as goal

pub overflow_sub-result : goal.overflow_sub-result
overflow_sub-result c = omega (arith, units_most_ones c.args.colors (omega arith) c.requires c.args.mask)

pub returns-then-not-solved : goal.returns-then-not-solved
returns-then-not-solved c = units_unsolved _ (omega arith) c.requires _ (sym c.solved.ensures ∙ c.if-not-solved.true)

pub returns-then-has : goal.returns-then-has
returns-then-has c = units_blank _ (omega arith) c.requires _ (sym c.solved.ensures ∙ c.if-not-solved.false) (sym c.has.ensures ∙ c.if-has.true)

pub returns : goal.returns
returns c = units_color _ (omega arith) c.requires _ (sym c.solved.ensures ∙ c.if-not-solved.false) (sym c.has.ensures ∙ c.if-has.false)
