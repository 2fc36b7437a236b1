-- The powers of a mask, lowest first, by halving: the mask minus one takes the lowest off, the set bits count them, and joined they are the mask, which its bits thus determine.
use mathlib.Core.Path.{◌≡◌, refl, sym, ap, ap₂, ◌∙◌}
use mathlib.Core.Bool.{true, false}
use mathlib.Core.List.{List, [], ◌∷◌, ◌++◌, foldl, append-nil}
use mathlib.Core.Logic.{◌⊎◌, inl, inr, ⊎_elim}
use Prim.Native.Nat.{ℕ, zero, suc, ◌+◌, ◌-◌, ◌*◌, ◌/◌, ◌%◌, ◌^◌, ◌<◌, ◌≤◌}
use native.Mathlib.Omega.{arith}
use native.Mathlib.Numerals.{one-add}
use native.Mathlib.Nat.{add-zero, zero-add, add-suc, suc-add, add-mul, one-mul, mul-one, mul_assoc, pow-suc, pow-succ'}
use lib.Arith.{lt-one}
use lib.Bits.{bit_and, bit_or, and_step, and_self, and_le_l, or_shifted_r}
use lib.Count.{ones, ones_step, ones-le}
use lib.Dec.{eqb}
use lib.ListN.{length, length-append, drop_of_length-le}
use borrow.Author.Tests.{ne_eqb}
use Rattle.std.proofs.lemmas.List.{nil_from_length}
use Rattle.lists.specs.Each.{each, when}
use Rattle.lists.proofs.Eaches.{each_plus, each_same}
use Rattle.lists.proofs.Tests.{same_tests}
use Rattle.lists.proofs.Writing.{Filling, fill_as, fill_done}
use Rattle.bits.specs.Bits.{bit, powers, joined, solved}
use Rattle.bits.proofs.SetBits.{bit_low, bit_half}

-- the number without its lowest set bit
abbrev pub without : ℕ → ℕ
without x = bit_and x (x - 1)

-- ---- a number is even or odd

parity : (x : ℕ) → (x ≡ x / 2 * 2) ⊎ (x ≡ x / 2 * 2 + 1)
parity x = digit (x % 2) (omega arith)
  where
    digit : (r : ℕ) → x ≡ x / 2 * 2 + r → (x ≡ x / 2 * 2) ⊎ (x ≡ x / 2 * 2 + 1)
    digit zero e = inl (omega arith)
    digit (suc zero) e = inr e
    digit (suc (suc r)) e = absurd (omega arith)

without_even : (x : ℕ) → x ≡ x / 2 * 2 → 0 < x → without x ≡ without (x / 2) * 2
without_even x e h =
    let half : (x - 1) / 2 ≡ x / 2 - 1 = omega arith in
    omega (arith, rw half at (and_step x (x - 1)))

without_odd : (x : ℕ) → x ≡ x / 2 * 2 + 1 → without x ≡ x / 2 * 2
without_odd x e =
    let half : (x - 1) / 2 ≡ x / 2 = omega arith in
    omega (arith, rw half at (and_step x (x - 1)), and_self (x / 2))

-- ---- the d lowest bits of x, each s places higher

unfoldable raised : ℕ → ℕ → ℕ → List ℕ
raised d s x = each d (λ k. when (bit x k) (2 ^ (s + k) ∷ []))

raised_half : (d s x : ℕ) → raised (suc d) s x ≡ when (bit x 0) (2 ^ s ∷ []) ++ raised d (suc s) (x / 2)
unfolding raised each
raised_half d s x =
    let f : ℕ → List ℕ = λ k. when (bit x k) (2 ^ (s + k) ∷ []) in
    ap (λ (n : ℕ). each n f) (sym (one-add d)) ∙ each_plus 1 d f
    ∙ ap₂ (λ (m : ℕ) (l : List ℕ). when (bit x 0) (2 ^ m ∷ []) ++ l) (add-zero s)
    (each_same d (λ k. f (1 + k)) (λ k. when (bit (x / 2) k) (2 ^ (suc s + k) ∷ [])) (λ k h. rw (one-add k, bit_half x k, add-suc s k, suc-add s k)))

module _ (d s x y : ℕ) where
  raised_even : x ≡ y * 2 → raised (suc d) s x ≡ raised d (suc s) y
  raised_even e =
      let low : x % 2 ≡ 0 = omega arith in
      let half : x / 2 ≡ y = omega arith in
      raised_half d s x ∙ rw (bit_low x, low, half)

  raised_odd : x ≡ y * 2 + 1 → raised (suc d) s x ≡ 2 ^ s ∷ raised d (suc s) y
  raised_odd e =
      let low : x % 2 ≡ 1 = omega arith in
      let half : x / 2 ≡ y = omega arith in
      raised_half d s x ∙ rw (bit_low x, low, half)

half_lt : (d : ℕ) {x : ℕ} → x < 2 ^ suc d → x / 2 < 2 ^ d
half_lt d h = omega (arith, pow-suc 2 d)

double : (y s : ℕ) → y * 2 ^ suc s ≡ y * 2 * 2 ^ s
double y s = rw (pow-succ' 2 s) (sym (mul_assoc y 2 (2 ^ s)))

raised_next : (d s x : ℕ) → 0 < x → x < 2 ^ d → raised d s x ≡ (x - without x) * 2 ^ s ∷ raised d s (without x)
raised_next zero s x p h = absurd (omega arith)
raised_next (suc d) s x p h = ⊎_elim
    (λ e.
    let w = without_even x e p in
    let same : (x / 2 - without (x / 2)) * 2 ≡ x - without x = omega arith in
    raised_even d s x (x / 2) e ∙ raised_next d (suc s) (x / 2) (omega arith) (half_lt d h)
    ∙ ap₂ ◌∷◌ (double (x / 2 - without (x / 2)) s ∙ rw same) (sym (raised_even d s (without x) (without (x / 2)) w)))
    (λ e.
    let w = without_odd x e in
    let one : x - without x ≡ 1 = omega arith in
    raised_odd d s x (x / 2) e ∙ ap₂ ◌∷◌ (rw one (sym (one-mul (2 ^ s)))) (sym (raised_even d s (without x) (x / 2) w)))
    (parity x)

raised_count : (d s x : ℕ) → x < 2 ^ d → length (raised d s x) ≡ ones x
unfolding raised each
raised_count zero s x h = omega (arith, ones-le 0 x h)
raised_count (suc d) s x h =
    let rest = raised_count d (suc s) (x / 2) (half_lt d h) in
    ⊎_elim
    (λ e. ap length (raised_even d s x (x / 2) e) ∙ omega (arith, ones_step x))
    (λ e. ap length (raised_odd d s x (x / 2) e) ∙ omega (arith, ones_step x))
    (parity x)

-- joined onto bits that lie lower
raised_joined : (d s x all : ℕ) → x < 2 ^ d → all < 2 ^ s → foldl bit_or all (raised d s x) ≡ x * 2 ^ s + all
unfolding raised each
raised_joined zero s x all h l = rw (lt-one h) (omega arith)
raised_joined (suc d) s x all h l = ⊎_elim
    (λ e.
    ap (foldl bit_or all) (raised_even d s x (x / 2) e) ∙ raised_joined d (suc s) (x / 2) all (half_lt d h) (omega (arith, pow-suc 2 s))
    ∙ ap (λ (n : ℕ). n + all) (double (x / 2) s ∙ ap (λ (n : ℕ). n * 2 ^ s) (sym e)))
    (λ e.
    let put : bit_or all (2 ^ s) ≡ 2 ^ s + all = rw one-mul at (or_shifted_r 1 s all l) in
    ap (foldl bit_or all) (raised_odd d s x (x / 2) e) ∙ ap (λ (a : ℕ). foldl bit_or a (raised d (suc s) (x / 2))) put
    ∙ raised_joined d (suc s) (x / 2) (2 ^ s + all) (half_lt d h) (omega (arith, pow-suc 2 s))
    ∙ omega (arith, double (x / 2) s, add-mul (x / 2 * 2) 1 (2 ^ s), one-mul (2 ^ s), ap (λ (n : ℕ). n * 2 ^ s) e))
    (parity x)

-- ---- the powers of a mask

powers_raised : (x : ℕ) → powers x ≡ raised 32 0 x
unfolding powers raised
powers_raised x = each_same 32 _ _ (λ k h. rw (zero-add k))

pub powers_done : powers 0 ≡ []
unfolding powers each bit
powers_done = refl

module _ (x : ℕ) (h : x < 2 ^ 32) where
  powers_next : 0 < x → powers x ≡ (x - without x) ∷ powers (without x)
  powers_next p = powers_raised x ∙ raised_next 32 0 x p h ∙ ap₂ ◌∷◌ (mul-one _) (sym (powers_raised (without x)))

  -- in the loop that stores them
  pub powers_left : 0 < x → {whole out₀ out : List ℕ} {at₀ at : ℕ} → Filling whole out₀ at₀ (powers x) out at → Filling whole out₀ at₀ ((x - without x) ∷ powers (without x)) out at
  powers_left p F = fill_as F (powers_next p)

  pub powers_count : length (powers x) ≡ ones x
  powers_count = rw (powers_raised x) (raised_count 32 0 x h)

  -- the round trip
  pub joined_powers : joined (powers x) ≡ x
  unfolding joined
  joined_powers = rw (powers_raised x) (raised_joined 32 0 x 0 h (omega arith) ∙ omega (arith, mul-one x))

-- a mask is solved where without its lowest bit nothing is left
none_left : (y : ℕ) → y < 2 ^ 32 → eqb y 0 ≡ eqb (suc (length (powers y))) 1
none_left zero h = rw powers_done
none_left (suc y) h =
    let more = powers_next (suc y) h (omega arith) in
    ne_eqb (suc y) 0 (λ e. omega arith) ∙ sym (ne_eqb (suc (length (powers (suc y)))) 1 (λ e. omega (arith, e, ap length more)))

module _ (x : ℕ) (h : x < 2 ^ 32) where
  pub solved_none : x ≡ 0 → false ≡ solved x
  unfolding solved
  solved_none e = rw (e, powers_done)

  pub solved_alone : 0 < x → eqb (without x) 0 ≡ solved x
  unfolding solved
  solved_alone p = none_left (without x) (omega (arith, and_le_l x (x - 1))) ∙ rw (powers_next x h p)

-- in the loop that stores them: what is left where there is room, and what stands there at the end
module _ {whole out₀ out : List ℕ} {at : ℕ} (x : ℕ) (F : Filling whole out₀ 0 (powers x) out at) (l : length whole ≡ length out₀) where
  powers_size : length out₀ ≡ at + length (powers x)
  powers_size = omega (arith, l, ap length F.split, length-append F.done (powers x), F.wrote.next_is)

  pub powers_more : at < length out₀ → 0 < x
  powers_more h = none_or x powers_size
    where
      none_or : (y : ℕ) → length out₀ ≡ at + length (powers y) → 0 < y
      none_or zero e = absurd (omega (arith, e, h, ap length powers_done))
      none_or (suc y) e = omega arith

  pub powers_all : length out₀ ≤ at → out ≡ whole
  powers_all h =
      (fill_done F (nil_from_length (powers x) (omega (arith, powers_size)))).left ∙ rw (drop_of_length-le out₀ {i = at} h, append-nil)

-- masks with the same bits are equal
pub same_bits : (x y : ℕ) → x < 2 ^ 32 → y < 2 ^ 32 → ((k : ℕ) → k < 32 → bit x k ≡ true → bit y k ≡ true) → ((k : ℕ) → k < 32 → bit y k ≡ true → bit x k ≡ true) → x ≡ y
unfolding powers
same_bits x y h l f g =
    let same = each_same 32 (λ k. when (bit x k) (2 ^ k ∷ [])) (λ k. when (bit y k) (2 ^ k ∷ [])) (λ k i. rw (same_tests (bit x k) (bit y k) (f k i) (g k i))) in
    sym (joined_powers x h) ∙ ap joined same ∙ joined_powers y l
