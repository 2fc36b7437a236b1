use Rattle.lists.proofs.Emitting.{Emitting}
use Rattle.sections.specs.Sections.{clauses_words}
use Rattle.numbering.specs.Variables.{many}
use Rattle.numbering.specs.Held.{line_in}
use Rattle.placement.specs.PairRows.{later_pairs}
use Rattle.placement.proofs.overlap.non_overlap_clauses.Given as goal

abbrev pub invariant-loop-a : goal.invariant-loop-a
invariant-loop-a l = Emitting (many (line_in l.fn.line)) (λ k. clauses_words (later_pairs (line_in l.fn.line) k)) l.fn.out l.fn.at l.out l.to l.a
