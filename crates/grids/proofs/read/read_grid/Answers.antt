use native.Mathlib.Omega.{arith}
use Rattle.refusals.proofs.Answering.{answers_wrote}
use Rattle.grids.proofs.Checking.{grid_sized, grid_colored}
use Rattle.grids.proofs.read.read_grid.Goals as goal

pub invariant_of-sized : goal.invariant_of-sized
invariant_of-sized c = record { sized = grid_sized _ _ _ c.in_ok-check_grid.ensures }

pub put_grid-requires : goal.put_grid-requires
put_grid-requires c =
    let e = c.in_ok-check_grid.ensures in
    (grid_colored _ _ _ e, omega (arith, c.count_grid-need.ensures))

pub returns : goal.returns
returns c = answers_wrote _ _ (c.in_ok-check_grid.ensures) (omega (arith, c.count_grid-need.ensures, c.if-out-need.false)) c.put_grid.ensures
