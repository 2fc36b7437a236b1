-- Which bits are set: by halving, beyond a number's width, after an or and an and, in joined words, in a power of two, with one bit more.
use mathlib.Core.Path.{◌≡◌, refl, sym, ◌∙◌}
use mathlib.Core.Bool.{Bool, true, false, cond, ◌&&◌, ◌||◌, or-false, or-true, false≢true}
use mathlib.Core.List.{List, [], ◌∷◌, foldl}
use mathlib.Core.Logic.{◌⊎◌, inl, inr}
use Prim.Native.Nat.{ℕ, zero, suc, ◌/◌, ◌%◌, ◌^◌, ◌<◌, min, max}
use native.Mathlib.Omega.{arith}
use native.Mathlib.Numerals.{one-add}
use native.Mathlib.Nat.{div-eq_of_lt, div-one, pow-suc}
use native.Mathlib.Decide.{ℕ_discrete, dec_lt}
use lib.Bits.{bit_and, bit_or, and_step, and_shr, or_step, or_shr, or_lt}
use lib.Dec.{eqb, ltb, eqb-zero-suc, eqb-suc-zero, eqb-suc-suc}
use lib.Pow.{pow_pos, pow-lt, shr-shr}
use borrow.Author.Tests.{lt-ltb, le-ltb, eq-eqb, ne_eqb}
use Rattle.bits.specs.Bits.{bit, joined, with_bit}

pub bit_low : (x : ℕ) → bit x 0 ≡ eqb (x % 2) 1
unfolding bit
bit_low x = rw (div-one x)

pub bit_half : (x k : ℕ) → bit x (suc k) ≡ bit (x / 2) k
unfolding bit
bit_half x k = rw (← one-add k, ← shr-shr x 1 k)

pub bit_beyond : (x k : ℕ) → x < 2 ^ k → bit x k ≡ false
unfolding bit
bit_beyond x k h = rw (div-eq_of_lt h)

-- ---- an or sets the bits of both, and an and those that both have

-- an operation on digits, by its table
digits : (f : ℕ → ℕ → ℕ) (g : Bool → Bool → Bool) → eqb (f 0 0) 1 ≡ g false false → eqb (f 0 1) 1 ≡ g false true → eqb (f 1 0) 1 ≡ g true false → eqb (f 1 1) 1 ≡ g true true
    → (p q : ℕ) → p < 2 → q < 2 → eqb (f p q) 1 ≡ g (eqb p 1) (eqb q 1)
digits f g a b c d zero zero hp hq = a
digits f g a b c d zero (suc zero) hp hq = b
digits f g a b c d (suc zero) zero hp hq = c
digits f g a b c d (suc zero) (suc zero) hp hq = d
digits f g a b c d zero (suc (suc q)) hp hq = absurd (omega arith)
digits f g a b c d (suc zero) (suc (suc q)) hp hq = absurd (omega arith)
digits f g a b c d (suc (suc p)) q hp hq = absurd (omega arith)

module _ (a b k : ℕ) where
  pub bit_or_lem : bit (bit_or a b) k ≡ (bit a k || bit b k)
  unfolding bit
  bit_or_lem =
      let p = a / 2 ^ k in
      let q = b / 2 ^ k in
      let low : bit_or p q % 2 ≡ max (p % 2) (q % 2) = omega (arith, or_step p q) in
      rw (or_shr a b k, low) (digits max ◌||◌ refl refl refl refl (p % 2) (q % 2) (omega arith) (omega arith))

  pub bit_and_lem : bit (bit_and a b) k ≡ (bit a k && bit b k)
  unfolding bit
  bit_and_lem =
      let p = a / 2 ^ k in
      let q = b / 2 ^ k in
      let low : bit_and p q % 2 ≡ min (p % 2) (q % 2) = omega (arith, and_step p q) in
      rw (and_shr a b k, low) (digits min ◌&&◌ refl refl refl refl (p % 2) (q % 2) (omega arith) (omega arith))

-- bit k of the joined words is set exactly when some word's is
pub joined_bit : (words : List ℕ) (k : ℕ) → bit (joined words) k ≡ foldl (λ before word. before || bit word k) false words
unfolding joined
joined_bit words k = onto words 0 ∙ rw (bit_beyond 0 k (pow_pos k))
  where
    onto : (ws : List ℕ) (all : ℕ) → bit (foldl bit_or all ws) k ≡ foldl (λ before word. before || bit word k) (bit all k) ws
    onto [] all = refl
    onto (w ∷ ws) all = onto ws (bit_or all w) ∙ rw (bit_or_lem all w k)

-- ---- a power of two has one bit

pub bit_power : (k j : ℕ) → bit (2 ^ k) j ≡ eqb j k
bit_power zero zero = bit_low 1
bit_power zero (suc j) = bit_half 1 j ∙ bit_beyond 0 j (pow_pos j) ∙ sym (eqb-suc-zero j)
bit_power (suc k) zero =
    let even : 2 ^ suc k % 2 ≡ 0 = omega (arith, pow-suc 2 k) in
    bit_low (2 ^ suc k) ∙ rw even (sym (eqb-zero-suc k))
bit_power (suc k) (suc j) =
    let half : 2 ^ suc k / 2 ≡ 2 ^ k = omega (arith, pow-suc 2 k) in
    bit_half (2 ^ suc k) j ∙ rw half (bit_power k j ∙ sym (eqb-suc-suc j k))

-- ---- a mask with bit k

pub with_same : (mask k : ℕ) → k < 32 → bit (with_bit mask k) k ≡ true
unfolding with_bit
with_same mask k h = rw (lt-ltb k 32 h, bit_or_lem mask (2 ^ k) k, bit_power k k, eq-eqb k k refl, or-true)

pub with_other : (mask k j : ℕ) → (j ≡ k → ⊥) → bit (with_bit mask k) j ≡ bit mask j
unfolding with_bit
with_other mask k j n = picked (ltb k 32)
  where
    picked : (b : Bool) → bit (cond b (bit_or mask (2 ^ k)) mask) j ≡ bit mask j
    picked true = rw (bit_or_lem mask (2 ^ k) j, bit_power k j, ne_eqb j k n, or-false)
    picked false = refl

pub with_zero : (mask : ℕ) → with_bit mask 0 ≡ bit_or mask 1
unfolding with_bit
with_zero mask = refl

module _ (mask k j : ℕ) where
  -- no bit is lost
  pub with_keeps : bit mask j ≡ true → bit (with_bit mask k) j ≡ true
  unfolding with_bit
  with_keeps e = picked (ltb k 32)
    where
      picked : (b : Bool) → bit (cond b (bit_or mask (2 ^ k)) mask) j ≡ true
      picked true = rw (bit_or_lem mask (2 ^ k) j, e)
      picked false = e

  -- and only bit k comes
  pub with_cases : bit (with_bit mask k) j ≡ true → (bit mask j ≡ true) ⊎ (k ≡ j)
  with_cases e = elim (ℕ_discrete j k) [ yes q ↦ inr (sym q) | no n ↦ inl (sym (with_other mask k j n) ∙ e) ]

pub with_within : (mask k : ℕ) → mask < 2 ^ 32 → with_bit mask k < 2 ^ 32
unfolding with_bit
with_within mask k h = elim (dec_lt k 32) [
  | yes l ↦ rw (lt-ltb k 32 l) (or_lt 32 mask (2 ^ k) h (pow-lt l))
  | no l ↦ rw (le-ltb k 32 (omega arith)) h
]

-- a mask with a bit is not 0
pub bit_some : (mask k : ℕ) → bit mask k ≡ true → 0 < mask
bit_some zero k e = absurd (false≢true (sym (bit_beyond 0 k (pow_pos k)) ∙ e))
bit_some (suc mask) k e = omega arith
