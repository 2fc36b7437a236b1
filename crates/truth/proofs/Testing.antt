-- Clauses tested one after another, and a loop whose turn k tests the clauses f k.
use mathlib.Core.Path.{◌≡◌, sym, ap, ◌∙◌}
use mathlib.Core.Bool.{Bool, true, false, not}
use mathlib.Core.List.{List, [], ◌∷◌, ◌++◌}
use Prim.Native.Nat.{ℕ, ◌+◌, ◌≤◌, ◌<◌}
use native.Mathlib.Omega.{arith}
use lib.ListN.{length, length-append}
use Rattle.lists.specs.Each.{each}
use Rattle.lists.proofs.Eaches.{rest, rest_first, rest_next, rest_done}
use Rattle.refusals.specs.Verdict.{Verdict, accepted, refused, refuse}
use Rattle.refusals.specs.declared.Refusal.{Refusal}
use Rattle.refusals.specs.Told.{refusal}
use Rattle.refusals.proofs.Answering.{refusal_is, refuse_accepted}
use Rattle.sections.specs.Sections.{Clause}
use Rattle.truth.specs.Truth.{Assignment, clause_true}
use Rattle.truth.specs.Tested.{tested, Countable}

module _ (β : Assignment) where
  -- ---- one list after another

  pub tested_on : (p q : ℕ) (a b : List Clause) → accepted q ≡ tested β p a → tested β p (a ++ b) ≡ tested β q b
  unfolding tested
  tested_on p q [] b e = let i : p ≡ q = cc in rw i
  tested_on p q (c ∷ a) b e =
      let r = refuse_accepted (not (clause_true β c)) 15 p _ e in
      rw r.0 (tested_on (p + 1) q a b r.1)

  handed : (t : Bool) (m p q : ℕ) (v w : Verdict ℕ) → (refused m q ≡ v → refused m q ≡ w) → refused m q ≡ refuse (not t) 15 p v → refused m q ≡ refuse (not t) 15 p w
  handed true m p q v w f e = f e
  handed false m p q v w f e = e

  pub tested_off : (m p q : ℕ) (a b : List Clause) → refused m q ≡ tested β p a → refused m q ≡ tested β p (a ++ b)
  unfolding tested
  tested_off m p q [] b e = absurd (let z : ◌≡◌ {A = ℕ} 0 1 = cc in omega arith)
  tested_off m p q (c ∷ a) b e = handed (clause_true β c) m p q _ _ (tested_off m (p + 1) q a b) e

  -- the place behind clauses that are true
  pub tested_place : (p q : ℕ) (a : List Clause) → accepted q ≡ tested β p a → q ≡ p + length a
  unfolding tested
  tested_place p q [] e = let i : p ≡ q = cc in omega arith
  tested_place p q (c ∷ a) e = let r = refuse_accepted (not (clause_true β c)) 15 p _ e in omega (arith, tested_place (p + 1) q a r.1)

  -- ---- a loop `for k in s..n` over a list of clauses: before its turn k the place is p

  pub record Testing (p₀ : ℕ) (cs : List Clause) (n : ℕ) (f : ℕ → List Clause) (p k : ℕ) : Type 0 where
    pub same : tested β p₀ cs ≡ tested β p (rest k n f)
    pub room : p + length (rest k n f) ≡ p₀ + length cs

  pub testing_from : (s n : ℕ) (f : ℕ → List Clause) (p : ℕ) (cs : List Clause) → cs ≡ rest s n f → Testing p cs n f p s
  testing_from s n f p cs e = record { same = ap (tested β p) e; room = ap (λ l. p + length l) (sym e) }

  pub testing_first : (n : ℕ) (f : ℕ → List Clause) (p : ℕ) (cs : List Clause) → cs ≡ each n f → Testing p cs n f p 0
  testing_first n f p cs e = testing_from 0 n f p cs (e ∙ rest_first n f)

module _ {β : Assignment} {p₀ : ℕ} {cs : List Clause} {n : ℕ} {f : ℕ → List Clause} {p k : ℕ} (T : Testing β p₀ cs n f p k) where
  module _ (l : k < n) where
    split : length (rest k n f) ≡ length (f k) + length (rest (k + 1) n f)
    split = ap length (rest_next k n f l) ∙ length-append (f k) (rest (k + 1) n f)

    pub testing_room : Countable p₀ cs → Countable p (f k)
    testing_room h = omega (arith, T.room, split)

    pub testing_stop : (why : Refusal) → refusal why ≡ tested β p (f k) → refusal why ≡ tested β p₀ cs
    testing_stop why e = refusal_is why ∙ rw (T.same, rest_next k n f l) (tested_off β _ p _ (f k) (rest (k + 1) n f) (sym (refusal_is why) ∙ e))

    pub testing_next : {q : ℕ} → accepted q ≡ tested β p (f k) → Testing β p₀ cs n f q (k + 1)
    testing_next {q} e = record {
      same = T.same ∙ rw (rest_next k n f l) (tested_on β p q (f k) (rest (k + 1) n f) e);
      room = omega (arith, T.room, split, tested_place β p q (f k) e);
    }

  pub testing_done : n ≤ k → accepted p ≡ tested β p₀ cs
  unfolding tested
  testing_done h = sym (T.same ∙ rw (rest_done k n f h))
