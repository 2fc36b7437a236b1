-- Clauses tested one after another: 15 at the first that is false.
use Rattle.std.specs.Prelude.{not, List, [], ◌∷◌, ℕ, ◌+◌, ◌^◌, ◌<◌, length}
use Rattle.refusals.specs.Verdict.{Verdict, accepted, refuse}
use Rattle.sections.specs.Sections.{Clause}
use Rattle.truth.specs.Truth.{Assignment, clause_true}

-- 15 at the first false clause, where the first clause has place p; and else the place behind the last
unfoldable pub tested : Assignment → ℕ → List Clause → Verdict ℕ
tested β p [] = accepted p
tested β p (c ∷ cs) = refuse (not (clause_true β c)) 15 p (tested β (p + 1) cs)

-- the places are numbers that the code can count
abbrev pub Countable : ℕ → List Clause → Type 0
Countable p cs = p + length cs < 2 ^ 63
