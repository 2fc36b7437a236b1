-- Document 01, "Refusal numbers": where the walk over clause words stops.
use Rattle.std.specs.Prelude.{◌≡◌, List, ℕ, ℤ, length}
use Rattle.refusals.specs.Verdict.{refused}
use Rattle.refusals.specs.Walk.{walked, times}
use Rattle.refusals.specs.Stops.{StopsAt}
use Rattle.formulas.specs.Walk.{read_section}

-- 22 is at the number of words, where one is missing, and else at a word
abbrev pub ClausePlaces : Type 0
ClausePlaces =
    (v n : ℕ) (ws : List ℤ) (k p : ℕ) → refused k p ≡ walked 22 (times n (read_section v) 0 ws) → StopsAt 22 (λ k. k ≡ 22) (length ws) k p
