-- The words and the literals of clauses, list by list.
use mathlib.Core.Path.{◌≡◌, refl, sym}
use mathlib.Core.List.{List, [], ◌∷◌, ◌++◌, append-nil, flat_map}
use Prim.Native.Nat.{ℕ, zero, suc, ◌+◌, ◌-◌, ◌≤◌}
use native.Mathlib.Omega.{arith}
use native.Mathlib.Nat.{zero-add}
use lib.IntN.{ℤ}
use lib.ListN.{length, length-append}
use Rattle.lists.proofs.Eaches.{flat_append}
use Rattle.lists.specs.Each.{each, sum}
use Rattle.lists.specs.Wrote.{Wrote}
use Rattle.lists.proofs.Emitting.{Emitting, emit_first, emit_done, EmittingFrom, from_first, from_done}
use Rattle.sections.specs.Sections.{Clause, clause_words, clauses_words, section_words, literals}

pub clauses_each : (n : ℕ) (f : ℕ → List Clause) → clauses_words (each n f) ≡ each n (λ k. clauses_words (f k))
unfolding each
clauses_each zero f = unfold flat_map in refl
clauses_each (suc n) f = rw (flat_append clause_words (each n f) (f n), clauses_each n f)

pub clauses_one : (c : Clause) → clauses_words (c ∷ []) ≡ clause_words c
unfolding flat_map
clauses_one c = append-nil (clause_words c)

-- ---- a loop whose turn k writes the clauses f k

module _ (n : ℕ) (f : ℕ → List Clause) where
  pub say_first : (out : List ℤ) (at : ℕ) → at + length (clauses_words (each n f)) ≤ length out → Emitting n (λ k. clauses_words (f k)) out at out at 0
  say_first out at h = emit_first n _ out at (rw (← clauses_each n f) h)

  pub say_done : {out₀ out : List ℤ} {at₀ at i : ℕ} → Emitting n (λ k. clauses_words (f k)) out₀ at₀ out at i → n ≤ i → Wrote (clauses_words (each n f)) out₀ at₀ out at
  say_done E h = rw (clauses_each n f) (emit_done E h)

-- and where the first turn is s
module _ (s n : ℕ) (f : ℕ → List Clause) where
  pub say_from : (out : List ℤ) (at : ℕ) → at + length (clauses_words (each (n - s) (λ k. f (s + k)))) ≤ length out → EmittingFrom s n (λ k. clauses_words (f k)) out at out at s
  say_from out at h = from_first s n (λ k. clauses_words (f k)) out at (rw (← clauses_each (n - s) (λ k. f (s + k))) h)

  pub say_from_done : {out₀ out : List ℤ} {at₀ at i : ℕ} → EmittingFrom s n (λ k. clauses_words (f k)) out₀ at₀ out at i → n ≤ i → Wrote (clauses_words (each (n - s) (λ k. f (s + k)))) out₀ at₀ out at
  say_from_done E h = rw (clauses_each (n - s) (λ k. f (s + k))) (from_done E h)

-- one clause
pub said : (c : Clause) {out out₁ : List ℤ} {at at₁ : ℕ} → Wrote (clause_words c) out at out₁ at₁ → Wrote (clauses_words (c ∷ [])) out at out₁ at₁
said c w = rw (clauses_one c) w

-- ---- lengths

pub literals_append : (cs ds : List Clause) → literals (cs ++ ds) ≡ literals cs + literals ds
unfolding literals
literals_append [] ds = sym (zero-add (literals ds))
literals_append (c ∷ cs) ds = omega (arith, literals_append cs ds)

pub literals_each : (n : ℕ) (f : ℕ → List Clause) → literals (each n f) ≡ sum n (λ k. literals (f k))
unfolding each sum
literals_each zero f = unfold literals in refl
literals_each (suc n) f = rw (literals_append (each n f) (f n), literals_each n f)

pub clauses_length : (cs : List Clause) → length (clauses_words cs) ≡ length cs + literals cs
unfolding flat_map clause_words literals
clauses_length [] = refl
clauses_length (c ∷ cs) = omega (arith, length-append c (clauses_words cs), clauses_length cs)

pub section_length : (cs : List Clause) → length (section_words cs) ≡ 1 + length cs + literals cs
unfolding section_words
section_length cs = omega (arith, clauses_length cs)
