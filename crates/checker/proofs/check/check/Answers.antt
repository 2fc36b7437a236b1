use mathlib.Core.Path.{◌∙◌}
use native.Mathlib.Omega.{arith}
use Rattle.refusals.proofs.Answering.{handed}
use Rattle.cells.proofs.BoardCells.{given_holds}
use Rattle.checker.proofs.Ordering.{few, variables_is, other_length, cells_within, bytes_refused, clauses_refused, cells_tell}
use Rattle.checker.proofs.check.check.Goals as goal

pub overflow_sub-variables : goal.overflow_sub-variables
overflow_sub-variables c = omega (arith, few (given_holds c.args.given))

pub overflow_mul-variables : goal.overflow_mul-variables
overflow_mul-variables c = omega (arith, few (given_holds c.args.given))

pub overflow_add-variables : goal.overflow_add-variables
overflow_add-variables c = omega (arith, few (given_holds c.args.given))

pub returns-then-model-variables : goal.returns-then-model-variables
returns-then-model-variables c = other_length (given_holds c.args.given) _ (variables_is (given_holds c.args.given)) c.if-model-variables.true

pub returns-in_err-check_values : goal.returns-in_err-check_values
returns-in_err-check_values c = rw (handed c.from_residual.result c.from_residual.ensures.1) (bytes_refused (given_holds c.args.given) _ (c.if-model-variables.false ∙ variables_is (given_holds c.args.given)) _ c.in_err-check_values.ensures)

pub invariant_of-test_sections : goal.invariant_of-test_sections
invariant_of-test_sections c = record { known = c.if-model-variables.false ∙ variables_is (given_holds c.args.given) }

pub returns-in_err-test_sections : goal.returns-in_err-test_sections
returns-in_err-test_sections c = rw (handed c.from_residual-in_err-test_sections.result c.from_residual-in_err-test_sections.ensures.1) (clauses_refused (given_holds c.args.given) _ (c.if-model-variables.false ∙ variables_is (given_holds c.args.given)) _ c.in_ok-check_values.ensures c.in_err-test_sections.ensures)

pub check_cells-requires : goal.check_cells-requires
check_cells-requires c = ((few (given_holds c.args.given)).some, cells_within (given_holds c.args.given) c.args.model.now (c.if-model-variables.false ∙ variables_is (given_holds c.args.given)))

pub returns : goal.returns
returns c = cells_tell (given_holds c.args.given) _ (c.if-model-variables.false ∙ variables_is (given_holds c.args.given)) c.in_ok-check_values.ensures c.in_ok-test_sections.ensures c.check_cells.ensures
