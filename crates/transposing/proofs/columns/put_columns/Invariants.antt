use Prim.Native.Nat.{◌-◌}
use Rattle.lists.proofs.Emitting.{Emitting}
use Rattle.grids.specs.Grid.{column}
use Rattle.transposing.proofs.columns.put_columns.Given as goal

abbrev pub invariant-loop-x : goal.invariant-loop-x
invariant-loop-x l = Emitting l.grid.width (column l.grid.width l.grid.height l.grid.cells.now) l.initial.out 0 l.out l.at l.x

abbrev pub decreases-loop-x : goal.decreases-loop-x
decreases-loop-x l = l.grid.width - l.x
