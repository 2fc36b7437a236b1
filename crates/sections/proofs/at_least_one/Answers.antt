use native.Mathlib.Omega.{arith}
use mathlib.Core.Path.{◌∙◌}
use Rattle.literals.proofs.Words.{word_is}
use Rattle.sections.proofs.Rows.{least_length, least_size, least_wrote}
use Rattle.sections.proofs.at_least_one.Goals as goal

pub put_variables-to-requires-clause-v_nonzero : goal.put_variables-to-requires-clause-v_nonzero
put_variables-to-requires-clause-v_nonzero c = c.requires.v_nonzero

pub put_variables-to-requires-clause-n_in_bounds : goal.put_variables-to-requires-clause-n_in_bounds
put_variables-to-requires-clause-n_in_bounds c = omega (arith, c.requires.n_in_bounds, least_size c.args.v c.args.n, least_length c.args.v c.args.n)

pub bounds-out-at : goal.bounds-out-at
bounds-out-at c = omega (arith, c.put_variables-to.auto.out, c.requires.n_in_bounds, least_size c.args.v c.args.n)

pub returns : goal.returns
returns c = least_wrote _ _ _ _ (omega (arith, c.requires.n_in_bounds, least_size c.args.v c.args.n)) (word_is c.count_word.result c.count_word.type_inv ∙ c.count_word.ensures) c.put_variables-to.ensures
