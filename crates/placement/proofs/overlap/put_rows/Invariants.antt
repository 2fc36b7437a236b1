use Prim.Native.Nat.{◌+◌, ◌-◌}
use Rattle.lists.proofs.Emitting.{EmittingFrom}
use Rattle.sections.specs.Sections.{clauses_words, row}
use Rattle.placement.proofs.overlap.put_rows.Given as goal

abbrev pub invariant-loop-i : goal.invariant-loop-i
invariant-loop-i l = EmittingFrom l.d l.p (λ k. clauses_words (row (l.va + k) l.vb (k + 1 - l.d))) l.initial.out l.at l.out l.to l.i

abbrev pub decreases-loop-i : goal.decreases-loop-i
decreases-loop-i l = l.p - l.i
