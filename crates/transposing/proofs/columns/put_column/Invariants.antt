use mathlib.Core.List.{[], ◌∷◌}
use Prim.Native.Nat.{◌+◌, ◌*◌}
use lib.ListN.{get_or}
use Rattle.lists.proofs.Emitting.{Emitting}
use Rattle.transposing.proofs.columns.put_column.Given as goal

abbrev pub invariant-loop-y : goal.invariant-loop-y
invariant-loop-y l = Emitting l.grid.height (λ y. get_or l.grid.cells.now (y * l.grid.width + l.x) 0 ∷ []) l.initial.out l.at l.out (l.at + l.y) l.y
