use Prim.Native.Nat.{◌+◌, ◌-◌}
use Rattle.lists.proofs.Emitting.{Emitting}
use Rattle.sections.specs.Sections.{clauses_words, row}
use Rattle.sections.proofs.at_most_one.Given as goal

abbrev pub invariant-loop-i : goal.invariant-loop-i
invariant-loop-i l = Emitting l.n (λ i. clauses_words (row (l.v + i) (l.v + i + 1) (l.n - 1 - i))) l.initial.out l.at l.out l.to l.i

abbrev pub decreases-loop-i : goal.decreases-loop-i
decreases-loop-i l = l.n - l.i
