-- The loops that say some of n variables, no two of them, or one with none of them.
use mathlib.Core.Path.{◌≡◌}
use mathlib.Core.List.{List, [], ◌∷◌, flat_map}
use Prim.Native.Nat.{ℕ, suc, ◌+◌, ◌-◌, ◌≤◌, ◌<◌}
use native.Mathlib.Omega.{arith}
use lib.IntN.{ℤ, pos}
use lib.ListN.{length, set}
use Rattle.lists.specs.Each.{each, tab, pairs}
use Rattle.lists.specs.Wrote.{Wrote}
use Rattle.lists.proofs.Eaches.{each_same, length_tab}
use Rattle.lists.proofs.Emitting.{Emitting}
use Rattle.lists.proofs.Writing.{wrote_ahead}
use Rattle.literals.specs.Literals.{positive}
use Rattle.sections.specs.Sections.{clause_words, clauses_words, not_both, at_least_one, at_most_one, row}
use Rattle.sections.proofs.ClauseLists.{say_first, say_done}

-- a clause of two literals takes three words
pub two_room : (to n : ℕ) (a b : ℤ) → to + length (clauses_words ((a ∷ b ∷ []) ∷ [])) ≤ n → to + 3 ≤ n
unfolding flat_map clause_words
two_room to n a b h = h

-- ---- some of them

pub least_length : (v n : ℕ) → length (at_least_one v n) ≡ n
unfolding at_least_one
least_length v n = length_tab n (λ i. positive (v + i))

pub least_size : (v n : ℕ) → length (clause_words (at_least_one v n)) ≡ 1 + n
unfolding clause_words
least_size v n = omega (arith, least_length v n)

module _ (v n : ℕ) where
  pub least_wrote : (out : List ℤ) (at : ℕ) → at < length out → {z : ℤ} → z ≡ pos n → {out' : List ℤ} {to : ℕ} → Wrote (at_least_one v n) out (at + 1) out' to → Wrote (clause_words (at_least_one v n)) out at (set out' at z) to
  unfolding clause_words
  least_wrote out at h e w = rw (e, least_length v n) (wrote_ahead out at (pos n) h w)

-- ---- one with none of them

module _ (x y n : ℕ) where
  pub row_first : (out : List ℤ) (at : ℕ) → at + length (clauses_words (row x y n)) ≤ length out → Emitting n (λ j. clauses_words (not_both x (y + j) ∷ [])) out at out at 0
  unfolding row tab
  row_first out at h = say_first n _ out at h

  pub row_done : {out₀ out : List ℤ} {at₀ at j : ℕ} → Emitting n (λ j. clauses_words (not_both x (y + j) ∷ [])) out₀ at₀ out at j → n ≤ j → Wrote (clauses_words (row x y n)) out₀ at₀ out at
  unfolding row tab
  row_done E l = say_done n _ E l

-- ---- no two of them: for each a row of those after it

module _ (v n : ℕ) where
  pub once_rows : at_most_one v n ≡ each n (λ i. row (v + i) (v + i + 1) (n - 1 - i))
  unfolding at_most_one pairs row tab
  once_rows =
      each_same n _ _ (λ i h.
      let e : n - suc i ≡ n - 1 - i = omega arith in
      rw e (each_same (n - 1 - i) _ _ (λ j l. let q : v + (suc i + j) ≡ v + i + 1 + j = omega arith in rw q)))

  pub once_first : (out : List ℤ) (at : ℕ) → at + length (clauses_words (at_most_one v n)) ≤ length out → Emitting n (λ i. clauses_words (row (v + i) (v + i + 1) (n - 1 - i))) out at out at 0
  once_first out at h = say_first n _ out at (rw (← once_rows) h)

  pub once_done : {out₀ out : List ℤ} {at₀ at i : ℕ} → Emitting n (λ i. clauses_words (row (v + i) (v + i + 1) (n - 1 - i))) out₀ at₀ out at i → n ≤ i → Wrote (clauses_words (at_most_one v n)) out₀ at₀ out at
  once_done E l = rw once_rows (say_done n _ E l)
