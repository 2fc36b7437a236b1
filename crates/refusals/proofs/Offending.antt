-- The first element that offends, as a loop looks for it.
use mathlib.Core.Path.{◌≡◌, refl, sym, ◌∙◌}
use mathlib.Core.Bool.{Bool, true, false}
use mathlib.Core.List.{List, [], ◌∷◌}
use Prim.Native.Nat.{ℕ, zero, suc, ◌+◌, ◌≤◌, ◌<◌}
use native.Mathlib.Omega.{arith}
use native.Mathlib.Nat.{add-zero}
use lib.ListN.{length, drop, get_or, drop_of_length-le}
use Rattle.lists.proofs.Dropping.{drop_one}
use Rattle.refusals.specs.Verdict.{passed, refused, first_off}
use Rattle.refusals.proofs.Answering.{refuse_accepted}

module _ {A : Type 0} where
  -- none of the i elements before has offended, and p is the place of the next
  pub record Searching (off : A → Bool) (k p₀ : ℕ) (l : List A) (p i : ℕ) : Type 0 where
    pub within : i ≤ length l
    pub same : first_off off k p₀ l ≡ first_off off k p (drop i l)

  pub searching_first : (off : A → Bool) (k p : ℕ) (l : List A) → Searching off k p l p 0
  searching_first off k p l = record { within = omega arith; same = refl }

  module _ {off : A → Bool} {k p₀ p i : ℕ} {l : List A} (S : Searching off k p₀ l p i) where
    module _ (d : A) (h : i < length l) where
      pub searching_found : off (get_or l i d) ≡ true → refused k p ≡ first_off off k p₀ l
      unfolding first_off
      searching_found e = sym (S.same ∙ rw (drop_one d l i h, e))

      pub searching_next : off (get_or l i d) ≡ false → Searching off k p₀ l (p + 1) (i + 1)
      unfolding first_off
      searching_next e = record { within = omega arith; same = S.same ∙ rw (drop_one d l i h, e) }

    pub searching_done : length l ≤ i → passed ≡ first_off off k p₀ l
    unfolding first_off
    searching_done h = sym (S.same ∙ rw (drop_of_length-le l h))

  -- where none offends, and only there, the list passes
  module _ (d : A) (off : A → Bool) (k : ℕ) where
    pub none_off : (p : ℕ) (l : List A) → passed ≡ first_off off k p l → (i : ℕ) → i < length l → off (get_or l i d) ≡ false
    unfolding first_off
    none_off p [] e i h = absurd (omega arith)
    none_off p (a ∷ l) e zero h = (refuse_accepted (off a) k p _ e).0
    none_off p (a ∷ l) e (suc i) h = none_off (p + 1) l (refuse_accepted (off a) k p _ e).1 i (omega arith)

    pub off_none : (p : ℕ) (l : List A) → ((i : ℕ) → i < length l → off (get_or l i d) ≡ false) → first_off off k p l ≡ passed
    unfolding first_off
    off_none p [] h = refl
    off_none p (a ∷ l) h = rw (h 0 (omega arith)) (off_none (p + 1) l (λ i g. h (suc i) (omega arith)))

    -- the first that offends, by its index
    pub off_at : (p : ℕ) (l : List A) (i : ℕ) → i < length l → ((j : ℕ) → j < i → off (get_or l j d) ≡ false) → off (get_or l i d) ≡ true → first_off off k p l ≡ refused k (p + i)
    unfolding first_off
    off_at p [] i h before here = absurd (omega arith)
    off_at p (a ∷ l) zero h before here = rw (here, add-zero)
    off_at p (a ∷ l) (suc i) h before here =
        let e : p + 1 + i ≡ p + suc i = omega arith in
        rw (before 0 (omega arith), ← e) (off_at (p + 1) l i (omega arith) (λ j g. before (suc j) (omega arith)) here)
