use Rattle.refusals.proofs.Offending.{Searching}
use lib.Dec.{ltb}
use Rattle.checker.proofs.count.check_values.Given as goal

abbrev pub invariant-loop-i : goal.invariant-loop-i
invariant-loop-i l = Searching (λ b. ltb 1 b) 14 0 l.model l.i l.i
