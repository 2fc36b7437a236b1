-- Lists as a loop makes them, a part for each turn.
use Rattle.std.specs.Prelude.{ℕ, zero, suc, ◌+◌, ◌-◌, ◌<◌, Bool, cond, List, [], ◌∷◌, ◌++◌, length, get_or}

module _ {A : Type 0} where
  -- f 0, then f 1, .., then f (n - 1)
  unfoldable pub each : ℕ → (ℕ → List A) → List A
  each zero f = []
  each (suc n) f = each n f ++ f n

  -- the n elements f 0, f 1, ..
  unfoldable pub tab : ℕ → (ℕ → A) → List A
  tab n f = each n (λ k. f k ∷ [])

  -- of each i < j below n, i outer
  unfoldable pub pairs : ℕ → (ℕ → ℕ → List A) → List A
  pairs n f = each n (λ i. each (n - suc i) (λ j. f i (suc i + j)))

  -- of each i and j below n, i outer
  unfoldable pub product : ℕ → (ℕ → ℕ → List A) → List A
  product n f = each n (λ i. each n (λ j. f i j))

  -- the list, where the test holds
  abbrev pub when : Bool → List A → List A
  when b l = cond b l []

  -- P holds of each element
  abbrev pub Every : A → (A → Type 0) → List A → Type 0
  Every d P l = (k : ℕ) → k < length l → P (get_or l k d)

-- f 0 + f 1 + .. + f (n - 1)
unfoldable pub sum : ℕ → (ℕ → ℕ) → ℕ
sum zero f = 0
sum (suc n) f = sum n f + f n

-- of each i < j below n
unfoldable pub sum_pairs : ℕ → (ℕ → ℕ → ℕ) → ℕ
sum_pairs n f = sum n (λ i. sum (n - suc i) (λ j. f i (suc i + j)))
