use mathlib.Core.List.{[], ◌∷◌, ◌++◌, map}
use Prim.Native.Nat.{◌+◌}
use lib.ListN.{length, get_or}
use Rattle.lists.proofs.Emitting.{Emitting}
use Rattle.sections.specs.Sections.{clauses_words}
use Rattle.implied.specs.Implications.{implied}
use Rattle.implied.proofs.impact.put_impact.Given as goal

abbrev pub invariant-loop-r : goal.invariant-loop-r
invariant-loop-r s = Emitting (length s.palette) (λ k. clauses_words (map (λ l. s.premise.literals.now ++ (l ∷ [])) (implied s.color (get_or s.palette k 0) (s.v + k)))) s.initial.out s.at s.out s.to s.r
