-- A section as it is written: its count, and then its clauses.
use mathlib.Core.Path.{◌≡◌}
use mathlib.Core.List.{List}
use Prim.Native.Nat.{ℕ, ◌+◌, ◌≤◌, ◌<◌}
use native.Mathlib.Omega.{arith}
use lib.IntN.{ℤ, pos}
use lib.ListN.{length, set, length-set}
use Rattle.lists.specs.Each.{each}
use Rattle.lists.specs.Wrote.{Wrote}
use Rattle.lists.proofs.Emitting.{Emitting}
use Rattle.lists.proofs.Writing.{wrote_after}
use Rattle.sections.specs.Sections.{Clause, clauses_words, section_words}
use Rattle.sections.proofs.ClauseLists.{say_first, say_done}

pub count_room : (cs : List Clause) (n : ℕ) → length (section_words cs) ≤ n → 0 < n
unfolding section_words
count_room cs n h = omega arith

module _ (cs : List Clause) (out : List ℤ) (h : length (section_words cs) ≤ length out) where
  pub clauses_room : (a : ℤ) → 1 + length (clauses_words cs) ≤ length (set out 0 a)
  unfolding section_words
  clauses_room a = rw length-set (omega arith)

  pub section_wrote : (a : ℤ) → a ≡ pos (length cs) → {out₁ : List ℤ} {to : ℕ} → Wrote (clauses_words cs) (set out 0 a) 1 out₁ to → Wrote (section_words cs) out 0 out₁ to
  unfolding section_words
  section_wrote a q w = wrote_after out 0 (pos (length cs)) (count_room cs (length out) h) (rw q at w)

-- where a loop writes the clauses
module _ (n : ℕ) (f : ℕ → List Clause) {cs : List Clause} (e : cs ≡ each n f) (out : List ℤ) (h : length (section_words cs) ≤ length out) where
  pub count_first : (a : ℤ) → Emitting n (λ k. clauses_words (f k)) (set out 0 a) 1 (set out 0 a) 1 0
  count_first a = say_first n f (set out 0 a) 1 (rw (← e) (clauses_room cs out h a))

  pub count_done : (a : ℤ) → a ≡ pos (length cs) → {out₁ : List ℤ} {to i : ℕ} → Emitting n (λ k. clauses_words (f k)) (set out 0 a) 1 out₁ to i → n ≤ i → Wrote (section_words cs) out 0 out₁ to
  count_done a q E l = section_wrote cs out h a q (rw e (say_done n f E l))
