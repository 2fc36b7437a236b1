-- A mask that collects bits, element by element: no bit is lost, and those that come are the elements'.
use mathlib.Core.Path.{◌≡◌}
use mathlib.Core.Bool.{true}
use mathlib.Core.List.{List, [], ◌∷◌, foldl}
use mathlib.Core.Logic.{◌⊎◌, inl, inr, ⊎_elim}
use Prim.Native.Nat.{ℕ, zero, suc, ◌^◌, ◌<◌}
use native.Mathlib.Omega.{arith}
use lib.ListN.{length, get_or}
use Rattle.bits.specs.Bits.{bit, with_bit}
use Rattle.bits.proofs.SetBits.{with_same, with_keeps, with_cases, with_within}

-- f puts in the bits that P gives to an element
pub record Collects {A : Type 0} (f : ℕ → A → ℕ) (P : A → ℕ → Type 0) : Type 0 where
  pub keeps : (mask : ℕ) (a : A) (k : ℕ) → bit mask k ≡ true → bit (f mask a) k ≡ true
  pub puts : (mask : ℕ) (a : A) (k : ℕ) → k < 32 → P a k → bit (f mask a) k ≡ true
  pub cases : (mask : ℕ) (a : A) (k : ℕ) → bit (f mask a) k ≡ true → (bit mask k ≡ true) ⊎ P a k
  pub within : (mask : ℕ) (a : A) → mask < 2 ^ 32 → f mask a < 2 ^ 32

-- some element of the list has P
pub record Some {A : Type 0} (d : A) (P : A → ℕ → Type 0) (l : List A) (k : ℕ) : Type 0 where
  pub at : ℕ
  pub below : at < length l
  pub holds : P (get_or l at d) k

-- an element is its own bit
pub collects_bit : {A : Type 0} (c : A → ℕ) → Collects (λ mask a. with_bit mask (c a)) (λ a k. c a ≡ k)
collects_bit c = record {
  keeps = λ mask a k. with_keeps mask (c a) k;
  puts = λ mask a k h e. rw e (with_same mask k h);
  cases = λ mask a k. with_cases mask (c a) k;
  within = λ mask a. with_within mask (c a);
}

module _ {A : Type 0} {f : ℕ → A → ℕ} {P : A → ℕ → Type 0} (C : Collects f P) (d : A) where
  all_keep : (mask : ℕ) (l : List A) (k : ℕ) → bit mask k ≡ true → bit (foldl f mask l) k ≡ true
  all_keep mask [] k e = e
  all_keep mask (a ∷ l) k e = all_keep (f mask a) l k (C.keeps mask a k e)

  all_put : (mask : ℕ) (l : List A) (k : ℕ) → k < 32 → (i : ℕ) → i < length l → P (get_or l i d) k → bit (foldl f mask l) k ≡ true
  all_put mask [] k h i b p = absurd (omega arith)
  all_put mask (a ∷ l) k h zero b p = all_keep (f mask a) l k (C.puts mask a k h p)
  all_put mask (a ∷ l) k h (suc i) b p = all_put (f mask a) l k h i (omega arith) p

  all_cases : (mask : ℕ) (l : List A) (k : ℕ) → bit (foldl f mask l) k ≡ true → (bit mask k ≡ true) ⊎ Some d P l k
  all_cases mask [] k e = inl e
  all_cases mask (a ∷ l) k e = ⊎_elim
      (λ b. ⊎_elim (λ o. inl o) (λ p. inr (record { at = 0; below = omega arith; holds = p })) (C.cases mask a k b))
      (λ s. inr (record { at = suc s.at; below = omega (arith, s.below); holds = s.holds }))
      (all_cases (f mask a) l k e)

  all_within : (mask : ℕ) (l : List A) → mask < 2 ^ 32 → foldl f mask l < 2 ^ 32
  all_within mask [] h = h
  all_within mask (a ∷ l) h = all_within (f mask a) l (C.within mask a h)

  -- a list puts in the bits of its elements
  pub collects_all : Collects (foldl f) (Some d P)
  collects_all = record { keeps = all_keep; puts = λ mask l k h s. all_put mask l k h s.at s.below s.holds; cases = all_cases; within = all_within }
