-- Document 01, "Refusal numbers": where a walk over words can stop, and that a number is never given.
use Rattle.std.specs.Prelude.{◌≡◌, ◌⊎◌, List, ℕ, ◌+◌, ◌<◌, length}
use Rattle.refusals.specs.Verdict.{Verdict, refused}
use Rattle.refusals.specs.Walk.{Walk, got, stop}

module _ (n : ℕ) (Other : ℕ → Type 0) where
  -- number n, of a missing word, is at the number of words; every other number is at a word
  abbrev pub StopsAt : ℕ → ℕ → ℕ → Type 0
  StopsAt end k p = ((k ≡ n) × (p ≡ end)) ⊎ (Other k × (p < end))

  -- a reader that stops so, and whose words end where they did
  pub record Stopping {B A : Type 0} (f : ℕ → List B → Walk B A) : Type 0 where
    pub stops : (i : ℕ) (ws : List B) (k p : ℕ) → f i ws ≡ stop k p → StopsAt (i + length ws) k p
    pub goes : (i : ℕ) (ws : List B) (a : A) (j : ℕ) (us : List B) → f i ws ≡ got a j us → j + length us ≡ i + length ws

-- number m is not given, at any place
abbrev pub Never : {A : Type 0} → ℕ → Verdict A → Type 0
Never m v = (p : ℕ) → refused m p ≡ v → ⊥
