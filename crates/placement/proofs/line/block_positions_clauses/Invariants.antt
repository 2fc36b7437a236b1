use mathlib.Core.List.{[], ◌∷◌}
use Rattle.lists.proofs.Emitting.{Emitting}
use Rattle.sections.specs.Sections.{clauses_words, at_least_one}
use Rattle.numbering.specs.Variables.{many, first_of}
use Rattle.numbering.specs.Held.{line_in}
use Rattle.placement.proofs.line.block_positions_clauses.Given as goal

abbrev pub invariant-loop-b : goal.invariant-loop-b
invariant-loop-b l = Emitting (many (line_in l.fn.line)) (λ k. clauses_words (at_least_one (first_of (line_in l.fn.line) k) (line_in l.fn.line).positions ∷ [])) l.fn.out l.fn.at l.out l.to l.b
