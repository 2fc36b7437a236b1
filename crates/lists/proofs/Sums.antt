-- The laws of `sum`, and lengths as sums.
use mathlib.Core.Path.{◌≡◌, refl, sym, ◌∙◌}
use mathlib.Core.Bool.{Bool, true, false, cond}
use mathlib.Core.List.{List, [], ◌∷◌}
use Prim.Native.Nat.{ℕ, zero, suc, ◌+◌, ◌-◌, ◌*◌, ◌≤◌, ◌<◌}
use native.Mathlib.Omega.{arith}
use native.Mathlib.Nat.{add-zero, add-suc, mul-zero, mul-add, zero-mul, suc-mul}
use native.Mathlib.Decide.{ℕ_discrete}
use lib.ListN.{length, length-append}
use Rattle.lists.specs.Each.{each, pairs, product, when, sum, sum_pairs}

pub sum_same : (n : ℕ) (f g : ℕ → ℕ) → ((k : ℕ) → k < n → f k ≡ g k) → sum n f ≡ sum n g
unfolding sum
sum_same zero f g h = refl
sum_same (suc n) f g h = rw (sum_same n f g (λ k l. h k (omega arith)), h n (omega arith))

pub sum_below : (n : ℕ) (f g : ℕ → ℕ) → ((k : ℕ) → k < n → f k ≤ g k) → sum n f ≤ sum n g
unfolding sum
sum_below zero f g h = omega arith
sum_below (suc n) f g h = omega (arith, sum_below n f g (λ k l. h k (omega arith)), h n (omega arith))

pub sum_constant : (n c : ℕ) → sum n (λ k. c) ≡ n * c
unfolding sum
sum_constant zero c = sym (zero-mul c)
sum_constant (suc n) c = omega (arith, sum_constant n c, suc-mul n c)

pub sum_most : (n m : ℕ) (f : ℕ → ℕ) → ((k : ℕ) → k < n → f k ≤ m) → sum n f ≤ n * m
sum_most n m f h = omega (arith, sum_below n f (λ k. m) h, sum_constant n m)

pub sum_least : (n : ℕ) (f : ℕ → ℕ) → ((k : ℕ) → k < n → 0 < f k) → n ≤ sum n f
unfolding sum
sum_least zero f h = omega arith
sum_least (suc n) f h = omega (arith, sum_least n f (λ k l. h k (omega arith)), h n (omega arith))

-- each of them is within the sum
pub sum_at : (n : ℕ) (f : ℕ → ℕ) (k : ℕ) → k < n → f k ≤ sum n f
unfolding sum
sum_at zero f k h = absurd (omega arith)
sum_at (suc n) f k h = elim (ℕ_discrete k n) [
  | yes e ↦ rw e (omega arith)
  | no e ↦ omega (arith, sum_at n f k (omega arith))
]

-- two sums are one
pub sum_both : (n : ℕ) (f g : ℕ → ℕ) → sum n (λ k. f k + g k) ≡ sum n f + sum n g
unfolding sum
sum_both zero f g = refl
sum_both (suc n) f g = omega (arith, sum_both n f g)

-- what is summed over two numbers may be summed over either first
pub sum_swap : (n m : ℕ) (f : ℕ → ℕ → ℕ) → sum n (λ i. sum m (λ j. f i j)) ≡ sum m (λ j. sum n (λ i. f i j))
unfolding sum
sum_swap zero m f = sym (sum_same m _ _ (λ k l. refl) ∙ sum_constant m 0 ∙ mul-zero m)
sum_swap (suc n) m f = rw (sum_swap n m f) (sym (sum_both m (λ j. sum n (λ i. f i j)) (λ j. f n j)))

-- first some, then the others
pub sum_plus : (m n : ℕ) (f : ℕ → ℕ) → sum (m + n) f ≡ sum m f + sum n (λ k. f (m + k))
unfolding sum
sum_plus m zero f = rw (add-zero m) (omega arith)
sum_plus m (suc n) f = rw (add-suc m n) (omega (arith, sum_plus m n f))

-- all but one are 0
pub sum_one : (n : ℕ) (f : ℕ → ℕ) (a : ℕ) → a < n → ((k : ℕ) → k < n → (k ≡ a → ⊥) → f k ≡ 0) → sum n f ≡ f a
unfolding sum
sum_one zero f a h o = absurd (omega arith)
sum_one (suc n) f a h o = elim (ℕ_discrete a n) [
  | yes e ↦ rw e (omega (arith, sum_same n f (λ k. 0) (λ k l. o k (omega arith) (λ q. omega arith)), sum_constant n 0, mul-zero n))
  | no e ↦ omega (arith, sum_one n f a (omega arith) (λ k l q. o k (omega arith) q), o n (omega arith) (λ q. e (sym q)))
]

pub sum_times : (n c : ℕ) (f : ℕ → ℕ) → sum n (λ k. c * f k) ≡ c * sum n f
unfolding sum
sum_times zero c f = sym (mul-zero c)
sum_times (suc n) c f = omega (arith, sum_times n c f, mul-add c (sum n f) (f n))

-- parts of one length, one after another
pub sum_parts : (n m : ℕ) (f : ℕ → ℕ) → sum n (λ i. sum m (λ j. f (i * m + j))) ≡ sum (n * m) f
unfolding sum
sum_parts zero m f = rw (zero-mul m)
sum_parts (suc n) m f = rw (sum_parts n m f, suc-mul n m) (sym (sum_plus (n * m) m f))

-- ---- lengths

module _ {A : Type 0} where
  pub length_each : (n : ℕ) (f : ℕ → List A) → length (each n f) ≡ sum n (λ k. length (f k))
  unfolding each sum
  length_each zero f = refl
  length_each (suc n) f = rw (length-append, length_each n f)

  pub length_when : (b : Bool) (x : A) → length (when b (x ∷ [])) ≡ cond b 1 0
  length_when true x = refl
  length_when false x = refl

  pub length_pairs : (n : ℕ) (f : ℕ → ℕ → List A) → length (pairs n f) ≡ sum_pairs n (λ i j. length (f i j))
  unfolding pairs sum_pairs
  length_pairs n f = length_each n _ ∙ sum_same n _ _ (λ i h. length_each (n - suc i) _)

  pub length_product : (n : ℕ) (f : ℕ → ℕ → List A) → length (product n f) ≡ sum n (λ i. sum n (λ j. length (f i j)))
  unfolding product
  length_product n f = length_each n _ ∙ sum_same n _ _ (λ i h. length_each n _)
