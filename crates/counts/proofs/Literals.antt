-- Clauses that all have m literals.
use mathlib.Core.Path.{◌≡◌, sym, ap, ◌∙◌}
use mathlib.Core.Bool.{Bool, true, false}
use mathlib.Core.List.{List, [], ◌∷◌, ◌++◌, map}
use Prim.Native.Nat.{ℕ, zero, suc, ◌+◌, ◌*◌, ◌<◌}
use native.Mathlib.Omega.{arith}
use native.Mathlib.Nat.{mul-zero, mul-one, mul-add}
use lib.ListN.{length, length-append}
use Rattle.lists.specs.Each.{each, when}
use Rattle.lists.proofs.Sums.{sum_same, sum_both, length_each}
use Rattle.sections.specs.Sections.{Clause, literals}
use Rattle.sections.proofs.ClauseLists.{literals_append, literals_each}

abbrev pub HasEach : ℕ → List Clause → Type 0
HasEach m cs = literals cs ≡ m * length cs

module _ (m : ℕ) where
  none_has : HasEach m []
  unfolding literals
  none_has = sym (mul-zero m)

  pub one_has : (c : Clause) → length c ≡ m → HasEach m (c ∷ [])
  unfolding literals
  one_has c e = omega (arith, mul-one m)

  pub append_has : (cs ds : List Clause) → HasEach m cs → HasEach m ds → HasEach m (cs ++ ds)
  append_has cs ds h k = omega (arith, literals_append cs ds, length-append cs ds, mul-add m (length cs) (length ds), ap (λ (n : ℕ). m * n) (length-append cs ds))

  pub each_has : (n : ℕ) (f : ℕ → List Clause) → ((k : ℕ) → k < n → HasEach m (f k)) → HasEach m (each n f)
  unfolding each
  each_has zero f h = none_has
  each_has (suc n) f h = append_has (each n f) (f n) (each_has n f (λ k l. h k (omega arith))) (h n (omega arith))

  pub when_has : (b : Bool) (c : Clause) → length c ≡ m → HasEach m (when b (c ∷ []))
  when_has true c e = one_has c e
  when_has false c e = none_has

  -- a clause for each element of a list
  pub map_has : {A : Type 0} (f : A → Clause) → ((a : A) → length (f a) ≡ m) → (l : List A) → HasEach m (map f l)
  map_has f h [] = none_has
  map_has f h (a ∷ l) = append_has (f a ∷ []) (map f l) (one_has (f a) (h a)) (map_has f h l)

-- clauses that each have one literal more than others are clauses
pub each_more : (n : ℕ) (f g : ℕ → List Clause) → ((k : ℕ) → k < n → literals (f k) ≡ length (f k) + length (g k)) → literals (each n f) ≡ length (each n f) + length (each n g)
each_more n f g h = literals_each n f ∙ sum_same n _ _ h ∙ sum_both n _ _ ∙ rw (length_each n f, length_each n g)
