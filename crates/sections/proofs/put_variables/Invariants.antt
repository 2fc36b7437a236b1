use mathlib.Core.List.{[], ◌∷◌}
use Prim.Native.Nat.{◌+◌}
use Rattle.lists.proofs.Emitting.{Emitting}
use Rattle.literals.specs.Literals.{positive}
use Rattle.sections.proofs.put_variables.Given as goal

abbrev pub invariant-loop-i : goal.invariant-loop-i
invariant-loop-i l = Emitting l.n (λ k. positive (l.v + k) ∷ []) l.initial.out l.at l.out (l.at + l.i) l.i
