use native.Mathlib.Omega.{arith}
use Rattle.refusals.proofs.Answering.{answers_short, answers_wrote}
use Rattle.truth.specs.Truth.{value}
use Rattle.cells.proofs.BoardCells.{given_holds}
use Rattle.checker.proofs.Ordering.{few}
use Rattle.models.proofs.Answered.{variables_within, negated_are, count_is, count_most, blocking_many}
use Rattle.models.proofs.call.blocking.Goals as goal

pub overflow_mul-n-2 : goal.overflow_mul-n-2
overflow_mul-n-2 c = omega (arith, few (given_holds c.in_ok-given.given))

pub count_true-count-requires : goal.count_true-count-requires
count_true-count-requires c =
    let v = variables_within (given_holds c.in_ok-given.given) c.in_ok-given.ensures.puzzle _ _ c.in_ok-given.ensures.checked in
    (v.0, v.1)

pub overflow_add-count : goal.overflow_add-count
overflow_add-count c = omega (arith, count_most (given_holds c.in_ok-given.given) c.in_ok-given.ensures.puzzle _ c.count_true-count.ensures)

pub overflow_add-result : goal.overflow_add-result
overflow_add-result c = omega (arith, count_most (given_holds c.in_ok-given.given) c.in_ok-given.ensures.puzzle _ c.count_true-count.ensures)

pub returns-then-out-count : goal.returns-then-out-count
returns-then-out-count c = answers_short _ _ c.in_ok-given.ensures.checked (blocking_many (given_holds c.in_ok-given.given) c.in_ok-given.ensures.puzzle _ c.count_true-count.ensures) c.if-out-count.true

pub write_blocking-requires-clause-v_nonzero : goal.write_blocking-requires-clause-v_nonzero
write_blocking-requires-clause-v_nonzero c = variables_within (given_holds c.in_ok-given.given) c.in_ok-given.ensures.puzzle _ _ c.in_ok-given.ensures.checked

pub write_blocking-requires-clause-count_value : goal.write_blocking-requires-clause-count_value
write_blocking-requires-clause-count_value c = (count_is (given_holds c.in_ok-given.given) c.in_ok-given.ensures.puzzle _ c.count_true-count.ensures, c.if-out-count.false)

pub returns : goal.returns
returns c =
    let many = blocking_many (given_holds c.in_ok-given.given) c.in_ok-given.ensures.puzzle _ c.count_true-count.ensures in
    answers_wrote _ _ c.in_ok-given.ensures.checked (omega (arith, many, c.if-out-count.false)) (rw (negated_are (given_holds c.in_ok-given.given) c.in_ok-given.ensures.puzzle (value c.args.model.now)) at c.write_blocking.ensures)
