use mathlib.Core.Path.{refl}
use Rattle.formulas.specs.Clauses.{clauses_in}
use Rattle.formulas.proofs.Ahead.{ahead_first}
use Rattle.formulas.proofs.clauses.Clauses.of.Goals as goal

pub invariant_of-result : goal.invariant_of-result
invariant_of-result c = ahead_first c.args.formula.formed

pub returns : goal.returns
unfolding clauses_in
returns c = refl
