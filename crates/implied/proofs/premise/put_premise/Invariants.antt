use Prim.Native.Nat.{◌+◌}
use lib.ListN.{length, get_or}
use Rattle.lists.proofs.Emitting.{Emitting}
use Rattle.implied.specs.ByWords.{premise_at}
use Rattle.implied.proofs.premise.put_premise.Given as goal

abbrev pub invariant-loop-r : goal.invariant-loop-r
invariant-loop-r l = Emitting (length l.palette) (λ k. premise_at l.color (get_or l.palette k 0) (l.v + k)) l.initial.out 0 l.out l.to l.r
