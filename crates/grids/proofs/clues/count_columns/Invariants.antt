use Prim.Native.Nat.{◌-◌}
use Rattle.grids.proofs.ColumnWords.{Descending}
use Rattle.grids.proofs.clues.count_columns.Given as goal

abbrev pub invariant-loop-y : goal.invariant-loop-y
invariant-loop-y l = Descending l.grid.width l.grid.height l.grid.cells.now l.count l.y

abbrev pub decreases-loop-y : goal.decreases-loop-y
decreases-loop-y l = l.grid.height - l.y
