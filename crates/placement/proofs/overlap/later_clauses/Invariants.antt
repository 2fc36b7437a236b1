use Prim.Native.Nat.{◌+◌}
use Rattle.lists.proofs.Emitting.{EmittingFrom}
use Rattle.sections.specs.Sections.{clauses_words}
use Rattle.numbering.specs.Variables.{many}
use Rattle.numbering.specs.Held.{line_in}
use Rattle.placement.specs.Placement.{conflicts}
use Rattle.placement.proofs.overlap.later_clauses.Given as goal

abbrev pub invariant-loop-b : goal.invariant-loop-b
invariant-loop-b l = EmittingFrom (l.fn.a + 1) (many (line_in l.fn.line)) (λ k. clauses_words (conflicts (line_in l.fn.line) l.fn.a k)) l.fn.out l.fn.at l.out l.to l.b
