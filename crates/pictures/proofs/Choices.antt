-- A choice for each number below n, as a function of all numbers.
use Prim.Native.Nat.{ℕ, ◌<◌}
use native.Mathlib.Decide.{dec_lt}

module _ {A : Type 0} (P : ℕ → A → Type 0) (n : ℕ) (other : A) (some : (i : ℕ) → i < n → (a : A) × P i a) where
  choose : (i : ℕ) → Dec (i < n) → A
  choose i (yes h) = (some i h).0
  choose i (no h) = other

  chosen : (i : ℕ) → i < n → (d : Dec (i < n)) → P i (choose i d)
  unfolding choose
  chosen i h (yes k) = (some i k).1
  chosen i h (no k) = absurd (k h)

  pub choice : (f : ℕ → A) × ((i : ℕ) → i < n → P i (f i))
  choice = (λ i. choose i (dec_lt i n), λ i h. chosen i h (dec_lt i n))
