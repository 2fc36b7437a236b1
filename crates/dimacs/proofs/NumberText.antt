-- The digits of a number: one, or those of its tenth and then the last. They are digit bytes with no leading zero, and say the number.
use mathlib.Core.Path.{◌≡◌, refl, ap}
use mathlib.Core.List.{List, [], ◌∷◌, ◌++◌}
use Prim.Native.Nat.{ℕ, zero, suc, ◌+◌, ◌-◌, ◌*◌, ◌/◌, ◌%◌, ◌^◌, ◌≤◌, ◌<◌, max}
use native.Mathlib.Omega.{arith}
use native.Mathlib.Nat.{div-add-mod, mod-lt, pow-suc, one-le-pow}
use native.Mathlib.Decide.{dec_lt}
use lib.ListN.{length, get_or, length-append, get_or-append}
use lib.Seq.{get_or_at}
use borrow.Author.Tests.{lt-ltb, le-ltb}
use Rattle.dimacs.specs.Text.{digit, digits_within, digits}
use Rattle.dimacs.specs.Reading.{value_from, DigitsAre}

-- a number of more than one digit, by its tenth and its last digit
pub record Tens (n : ℕ) : Type 0 where
  pub whole : 10 * (n / 10) + n % 10 ≡ n
  pub last : n % 10 < 10
  pub some : 10 ≤ n → 0 < n / 10
  pub falls : 10 ≤ n → n / 10 < n

pub tens : (n : ℕ) → Tens n
tens n =
    let w = div-add-mod n 10 in
    let l = mod-lt n {m = 10} (omega arith) in
    record { whole = w; last = l; some = λ h. omega arith; falls = λ h. omega arith }

-- what holds of one digit, and of a number where it holds of its tenth, holds of all
pub by_tens : (P : ℕ → Type 0) → ((n : ℕ) → n < 10 → P n) → ((n : ℕ) → 10 ≤ n → P (n / 10) → P n) → (n : ℕ) → P n
by_tens P one more n = within (suc n) n (omega arith)
  where
    within : (k n : ℕ) → n < k → P n
    within zero n h = absurd (omega arith)
    within (suc k) n h = elim (dec_lt n 10) [
      | yes l ↦ one n l
      | no l ↦ more n (omega arith) (within k (n / 10) (omega (arith, (tens n).falls (omega arith))))
    ]

-- enough of them are all of them
within_same : (k m n : ℕ) → n < k → n < m → digits_within k n ≡ digits_within m n
unfolding digits_within
within_same zero m n h l = absurd (omega arith)
within_same (suc k) zero n h l = absurd (omega arith)
within_same (suc k) (suc m) n h l = elim (dec_lt n 10) [
  | yes d ↦ rw (lt-ltb n 10 d)
  | no d ↦
      let d' : 10 ≤ n = omega arith in
      let f = (tens n).falls d' in
      rw (le-ltb n 10 d', within_same k m (n / 10) (omega arith) (omega arith))
]

pub digits_one : (n : ℕ) → n < 10 → digits n ≡ digit n ∷ []
unfolding digits digits_within
digits_one n h = rw (lt-ltb n 10 h)

pub digits_more : (n : ℕ) → 10 ≤ n → digits n ≡ digits (n / 10) ++ (digit (n % 10) ∷ [])
unfolding digits digits_within
digits_more n h = rw (le-ltb n 10 h, within_same n (suc (n / 10)) (n / 10) ((tens n).falls h) (omega arith))

-- ---- how many

pub digits_some : (n : ℕ) → 0 < length (digits n)
digits_some n = by_tens (λ n. 0 < length (digits n))
    (λ n h. rw (digits_one n h) (omega arith))
    (λ n h p. rw (digits_more n h, length-append) (omega arith)) n

pub digits_most : (k n : ℕ) → n < 10 ^ suc k → length (digits n) ≤ suc k
digits_most zero n h = rw (digits_one n h) (omega arith)
digits_most (suc k) n h = elim (dec_lt n 10) [
  | yes l ↦ rw (digits_one n l) (omega arith)
  | no l ↦
      let m : n / 10 < 10 ^ suc k = omega (arith, (tens n).whole, (tens n).last, pow-suc 10 (suc k)) in
      rw (digits_more n (omega arith), length-append) (omega (arith, digits_most k (n / 10) m))
]

digits_least : (k n : ℕ) → 10 ^ k ≤ n → suc k ≤ length (digits n)
digits_least zero n h = digits_some n
digits_least (suc k) n h =
    let l : 10 ≤ n = omega (arith, pow-suc 10 k, one-le-pow k 10 (omega arith)) in
    let m : 10 ^ k ≤ n / 10 = omega (arith, (tens n).whole, (tens n).last, pow-suc 10 k) in
    rw (digits_more n l, length-append) (omega (arith, digits_least k (n / 10) m))

-- between two powers of ten
pub digits_long : (k n : ℕ) → 10 ^ k ≤ n → n < 10 ^ suc k → suc k ≡ length (digits n)
digits_long k n h l = omega (arith, digits_least k n h, digits_most k n l)

-- 0 has as many as 1
pub digits_count : (n m k : ℕ) → m ≡ max n 1 → 10 ^ k ≤ m → m < 10 * 10 ^ k → k + 1 ≡ length (digits n)
digits_count n m k e h l =
    let d = digits_long k m h (omega (arith, l, pow-suc 10 k)) in
    elim (dec_lt n 1) [
      | yes z ↦ omega (arith, d, ap (λ n. length (digits n)) e, ap length (digits_one n (omega arith)), ap length (digits_one m (omega arith)))
      | no s ↦ let f : m ≡ n = omega arith in omega (arith, d, ap (λ n. length (digits n)) f)
    ]

-- ---- what they say

value_append : (n : ℕ) (ds es : List ℕ) → value_from n (ds ++ es) ≡ value_from (value_from n ds) es
unfolding value_from
value_append n [] es = refl
value_append n (d ∷ ds) es = value_append (10 * n + (d - 48)) ds es

pub digits_value : (n : ℕ) → value_from 0 (digits n) ≡ n
unfolding value_from
digits_value n = by_tens (λ n. value_from 0 (digits n) ≡ n)
    (λ n h. rw (digits_one n h) (omega arith))
    (λ n h e. rw (digits_more n h, value_append, e) (omega (arith, (tens n).whole)))
    n

abbrev pub OnlyDigits : List ℕ → Type 0
OnlyDigits ds = (i : ℕ) → i < length ds → (48 ≤ get_or ds i 0) × (get_or ds i 0 ≤ 57)

pub digits_only : (n : ℕ) → OnlyDigits (digits n)
digits_only n = by_tens (λ n. OnlyDigits (digits n))
    (λ n h. rw (digits_one n h) (one n h))
    (λ n h o. rw (digits_more n h) (λ i l. last (digits (n / 10)) (n % 10) (tens n).last o i l))
    n
  where
    one : (n : ℕ) → n < 10 → OnlyDigits (digit n ∷ [])
    one n h zero l = (omega arith, omega arith)
    one n h (suc i) l = absurd (omega arith)

    last : (ds : List ℕ) (d : ℕ) → d < 10 → OnlyDigits ds → OnlyDigits (ds ++ (digit d ∷ []))
    last ds d h o i l = elim (dec_lt i (length ds)) [
      | yes m ↦ rw (get_or-append ds _ 0 i m) (o i m)
      | no m ↦
          let e : length ds ≡ i = omega (arith, length-append ds (digit d ∷ [])) in
          rw (get_or_at ds (digit d) [] 0 i e) (omega arith, omega arith)
    ]

digits_leading : (n : ℕ) → 0 < n → 48 < get_or (digits n) 0 0
digits_leading n = by_tens (λ n. 0 < n → 48 < get_or (digits n) 0 0)
    (λ n h s. rw (digits_one n h) (omega arith))
    (λ n h f s. rw (digits_more n h, get_or-append (digits (n / 10)) (digit (n % 10) ∷ []) 0 0 (digits_some (n / 10))) (f ((tens n).some h)))
    n

pub digits_are : DigitsAre
digits_are n = record {
  some = digits_some n;
  only = digits_only n;
  leading = digits_leading n;
  zero_is = λ e. rw (e, digits_one 0 (omega arith));
  value_is = digits_value n;
}
