-- Triangle numbers: how many pairs there are, and how many positions are in conflict.
use mathlib.Core.Path.{◌≡◌, sym}
use Prim.Native.Nat.{ℕ, zero, suc, ◌+◌, ◌-◌, ◌*◌, ◌/◌, ◌<◌}
use native.Mathlib.Omega.{arith}
use native.Mathlib.Nat.{mul-suc, suc-mul, zero-mul}
use native.Mathlib.Decide.{dec_le}
use Rattle.lists.specs.Each.{sum, sum_pairs}
use Rattle.lists.proofs.Sums.{sum_same, sum_both, sum_constant}

twice_pairs : (n : ℕ) → 2 * sum n (λ i. n - suc i) ≡ n * (n - 1)
unfolding sum
twice_pairs zero = sym (zero-mul (0 - 1))
twice_pairs (suc n) =
    let e : sum n (λ i. suc n - suc i) ≡ sum n (λ i. 1 + (n - suc i)) = sum_same n _ _ (λ i h. omega arith) in
    let p : suc n - 1 ≡ n = omega arith in
    rw p (omega (arith, e, sum_both n (λ i. 1) (λ i. n - suc i), sum_constant n 1, twice_pairs n, suc-mul n n, less n))
  where
    less : (n : ℕ) → n * (n - 1) + n ≡ n * n
    less zero = omega (arith, zero-mul (0 - 1), zero-mul 0)
    less (suc n) = let p : suc n - 1 ≡ n = omega arith in rw p (omega (arith, mul-suc (suc n) n))

-- the pairs of numbers below n
pub pairs_count : (n : ℕ) → sum_pairs n (λ i j. 1) ≡ n * (n - 1) / 2
unfolding sum_pairs
pairs_count n =
    let e : sum n (λ i. sum (n - suc i) (λ j. 1)) ≡ sum n (λ i. n - suc i) = sum_same n _ _ (λ i h. omega (arith, sum_constant (n - suc i) 1)) in
    omega (arith, e, twice_pairs n)

-- the sum of i + 1 - d over the i below p is a triangle
pub triangle_count : (d : ℕ) → 0 < d → (p : ℕ) → sum p (λ i. i + 1 - d) ≡ (p - d) * (p - d + 1) / 2
unfolding sum
triangle_count d h p = omega (arith, twice p)
  where
    twice : (p : ℕ) → 2 * sum p (λ i. i + 1 - d) ≡ (p - d) * (p - d + 1)
    twice zero = let e : 0 - d ≡ 0 = omega arith in unfold sum in rw e (omega (arith, zero-mul (0 + 1)))
    twice (suc p) = elim (dec_le d p) [
      | yes l ↦
          let n = p - d in
          let e : suc p - d ≡ suc n = omega arith in
          unfold sum in rw e (omega (arith, twice p, suc-mul n (suc n + 1), mul-suc n (n + 1)))
      | no l ↦
          let e : suc p - d ≡ 0 = omega arith in
          let e' : p - d ≡ 0 = omega arith in
          unfold sum in rw e (omega (arith, rw e' at (twice p), zero-mul (0 + 1)))
    ]
