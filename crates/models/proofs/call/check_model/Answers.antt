use native.Mathlib.Omega.{arith}
use Rattle.refusals.proofs.Answering.{answers_short, answers_wrote}
use Rattle.truth.specs.Truth.{value}
use Rattle.cells.proofs.BoardCells.{given_holds}
use Rattle.models.proofs.Answered.{variables_within, are_bytes, colors_are, cells_many}
use Rattle.models.proofs.call.check_model.Goals as goal

pub returns-then-out-cells : goal.returns-then-out-cells
returns-then-out-cells c = answers_short _ _ c.in_ok-given.ensures.checked (cells_many (given_holds c.in_ok-given.given) c.in_ok-given.ensures.puzzle _) c.if-out-cells.true

pub write_colors-requires-clause-v_nonzero : goal.write_colors-requires-clause-v_nonzero
write_colors-requires-clause-v_nonzero c =
    let v = variables_within (given_holds c.in_ok-given.given) c.in_ok-given.ensures.puzzle _ _ c.in_ok-given.ensures.checked in
    (v.0, v.1, are_bytes (given_holds c.in_ok-given.given) c.in_ok-given.ensures.puzzle)

pub returns : goal.returns
returns c =
    let many = cells_many (given_holds c.in_ok-given.given) c.in_ok-given.ensures.puzzle (value c.args.model.now) in
    answers_wrote _ _ c.in_ok-given.ensures.checked (omega (arith, many, c.if-out-cells.false)) (rw (colors_are (given_holds c.in_ok-given.given) c.in_ok-given.ensures.puzzle (value c.args.model.now)) at c.write_colors.ensures)
