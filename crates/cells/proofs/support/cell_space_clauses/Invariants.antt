use mathlib.Core.List.{[], ◌∷◌}
use lib.ListN.{length, get_or}
use Rattle.lists.proofs.Emitting.{Emitting}
use Rattle.literals.specs.Literals.{positive, negative}
use Rattle.sections.specs.Sections.{clauses_words}
use Rattle.cells.proofs.support.cell_space_clauses.Given as goal

abbrev pub invariant-loop-u : goal.invariant-loop-u
invariant-loop-u l = Emitting (length l.found) (λ k. clauses_words ((negative (get_or l.found k 0) ∷ positive l.v ∷ []) ∷ [])) l.initial.out l.at l.out l.to l.u-index
