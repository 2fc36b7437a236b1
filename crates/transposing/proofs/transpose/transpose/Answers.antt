use native.Mathlib.Omega.{arith}
use Rattle.refusals.proofs.Answering.{answers_short, answers_wrote}
use Rattle.grids.proofs.Cells.{transposed_size}
use Rattle.grids.proofs.Checking.{size_ok}
use Rattle.transposing.proofs.transpose.transpose.Goals as goal

pub returns-then-out-grid : goal.returns-then-out-grid
returns-then-out-grid c =
    let e = c.in_ok-check_size.ensures in
    answers_short _ _ e (transposed_size (size_ok e)) c.if-out-grid.true

pub invariant_of-sized : goal.invariant_of-sized
invariant_of-sized c = record { sized = size_ok c.in_ok-check_size.ensures }

pub returns : goal.returns
returns c =
    let e = c.in_ok-check_size.ensures in
    answers_wrote _ _ e (omega (arith, transposed_size (size_ok e), c.if-out-grid.false)) c.put_columns.ensures
