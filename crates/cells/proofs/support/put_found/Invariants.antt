use mathlib.Core.List.{[], ◌∷◌}
use Prim.Native.Nat.{◌+◌}
use lib.ListN.{length, get_or}
use Rattle.lists.proofs.Emitting.{Emitting}
use Rattle.literals.specs.Literals.{positive}
use Rattle.cells.proofs.support.put_found.Given as goal

abbrev pub invariant-loop-i : goal.invariant-loop-i
invariant-loop-i l = Emitting (length l.found) (λ k. positive (get_or l.found k 0) ∷ []) l.initial.out l.at l.out (l.at + l.i) l.i
