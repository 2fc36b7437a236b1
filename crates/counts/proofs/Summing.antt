-- A loop that adds up f 0, f 1, .. of numbers that are m at most.
use mathlib.Core.Path.{◌≡◌, refl}
use Prim.Native.Nat.{ℕ, suc, ◌+◌, ◌*◌, ◌≤◌, ◌<◌}
use native.Mathlib.Omega.{arith}
use native.Mathlib.Numerals.{add-one}
use native.Mathlib.Nat.{mul-le-mul_right, suc-mul}
use Rattle.lists.specs.Each.{sum}
use Rattle.lists.proofs.Sums.{sum_most}

pub record Summing (n m : ℕ) (f : ℕ → ℕ) (total i : ℕ) : Type 0 where
  pub within : i ≤ n
  pub small : (k : ℕ) → k < n → f k ≤ m
  pub so_far : total ≡ sum i f

pub summing_first : (n m : ℕ) (f : ℕ → ℕ) → ((k : ℕ) → k < n → f k ≤ m) → Summing n m f 0 0
unfolding sum
summing_first n m f h = record { within = omega arith; small = h; so_far = refl }

module _ {n m : ℕ} {f : ℕ → ℕ} {total i : ℕ} (S : Summing n m f total i) where
  pub summing_done : n ≤ i → total ≡ sum n f
  summing_done h = let e : i ≡ n = omega (arith, S.within) in rw e at S.so_far

  module _ (h : i < n) {v : ℕ} (e : v ≡ f i) where
    pub summing_next : Summing n m f (total + v) (i + 1)
    unfolding sum
    summing_next = record { within = omega arith; small = S.small; so_far = rw (add-one i, e, S.so_far) }

    -- the sum stays small
    pub summing_most : total + v ≤ n * m
    summing_most =
        omega (arith, S.so_far, e, S.small i h, sum_most i m f (λ k l. S.small k (omega arith)), mul-le-mul_right {m = suc i} {n = n} m h, suc-mul i m)
