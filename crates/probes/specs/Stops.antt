-- Document 01, "Refusal numbers": where the walk over probe words stops.
use Rattle.std.specs.Prelude.{◌≡◌, List, ℕ, length}
use Rattle.refusals.specs.Verdict.{refused}
use Rattle.refusals.specs.Walk.{walked}
use Rattle.refusals.specs.Stops.{StopsAt}
use Rattle.probes.specs.Probes.{read_probes}

-- 1 is at the number of words, and every other of its refusals, and 11, at a word
abbrev pub ProbePlaces : Type 0
ProbePlaces =
    (w h K : ℕ) (us : List ℕ) (k p : ℕ) → refused k p ≡ walked 11 (read_probes w h K us) → StopsAt 1 (λ k. k ≡ 1 → ⊥) (length us) k p
