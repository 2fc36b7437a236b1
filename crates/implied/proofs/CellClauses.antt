-- What a premise and an impact say of a cell, colour by colour, as it is written.
use mathlib.Core.Path.{◌≡◌, refl, ap, ◌∙◌}
use mathlib.Core.Bool.{Bool, true, false, cond}
use mathlib.Core.List.{List, [], ◌∷◌, ◌++◌, map, flat_map}
use Prim.Native.Nat.{ℕ, ◌+◌, ◌≤◌, ◌<◌}
use native.Mathlib.Omega.{arith}
use native.Mathlib.Nat.{mul-one}
use native.Mathlib.Decide.{ℕ_discrete}
use lib.IntN.{ℤ, pos}
use lib.Dec.{eqb}
use lib.ListN.{length, set, get_or, length-append, length-set}
use lib.Seq.{drop-drop}
use borrow.Author.Tests.{eq-eqb, ne_eqb}
use borrow.Rule.Slice.PartMut.{put_mid}
use Rattle.lists.specs.Each.{each, tab, when}
use Rattle.lists.specs.Wrote.{Wrote}
use Rattle.lists.proofs.Parts.{each_most}
use Rattle.lists.proofs.Sums.{length_when}
use Rattle.lists.proofs.Tests.{cond_most}
use Rattle.lists.proofs.Emitting.{Emitting, emit_first, emit_done}
use Rattle.lists.proofs.Writing.{wrote_none, wrote_store, wrote_then, wrote_after, wrote_kept}
use Rattle.literals.specs.Literals.{positive, negative}
use Rattle.sections.specs.Sections.{Clause, clause_words, clauses_words, at_least_one}
use Rattle.sections.proofs.Rows.{least_length}
use Rattle.sections.proofs.ClauseLists.{clauses_one, say_first, say_done, said}
use Rattle.implied.specs.Implications.{premise_of, implied, impact_of}
use Rattle.implied.specs.ByWords.{premise_literal, premise_at}

-- ---- a premise

module _ (c d u : ℕ) where
  pub premise_blank : c ≡ 0 → premise_at c d u ≡ premise_literal c u ∷ []
  unfolding premise_at
  premise_blank e = rw (eq-eqb c 0 e)

  module _ (some : c ≡ 0 → ⊥) where
    pub premise_color : eqb d c ≡ true → premise_at c d u ≡ premise_literal c u ∷ []
    unfolding premise_at
    premise_color e = rw (ne_eqb c 0 some, e)

    pub premise_other : eqb d c ≡ false → premise_at c d u ≡ []
    unfolding premise_at
    premise_other e = rw (ne_eqb c 0 some, e)

pub premise_most : (cs : List ℕ) (v c : ℕ) → length (premise_of cs v c) ≤ length cs
unfolding premise_of
premise_most cs v c = cases (eqb c 0)
  where
    cases : (b : Bool) → length (cond b (at_least_one v (length cs)) (each (length cs) (λ r. when (eqb (get_or cs r 0) c) (negative (v + r) ∷ [])))) ≤ length cs
    cases true = omega (arith, least_length v (length cs))
    cases false = omega (arith, each_most (length cs) 1 (λ r. when (eqb (get_or cs r 0) c) (negative (v + r) ∷ [])) (λ r. omega (arith, length_when (eqb (get_or cs r 0) c) (negative (v + r)), cond_most (eqb (get_or cs r 0) c))), mul-one (length cs))

module _ (cs : List ℕ) (v c : ℕ) where
  premise_each : premise_of cs v c ≡ each (length cs) (λ r. premise_at c (get_or cs r 0) (v + r))
  unfolding premise_of premise_at premise_literal at_least_one tab
  premise_each = elim (ℕ_discrete c 0) [ yes e ↦ rw (eq-eqb c 0 e) | no e ↦ rw (ne_eqb c 0 e) ]

  pub premise_first : (out : List ℤ) → length cs ≤ length out → Emitting (length cs) (λ r. premise_at c (get_or cs r 0) (v + r)) out 0 out 0 0
  premise_first out h = emit_first (length cs) _ out 0 (rw (← premise_each) (omega (arith, premise_most cs v c)))

  pub premise_done : {out₀ out : List ℤ} {at r : ℕ} → Emitting (length cs) (λ r. premise_at c (get_or cs r 0) (v + r)) out₀ 0 out at r → length cs ≤ r → Wrote (premise_of cs v c) out₀ 0 out at
  premise_done E h = rw premise_each (emit_done E h)

-- ---- a clause of a premise and one literal

module _ (premise : Clause) (l : ℤ) (out : List ℤ) (at : ℕ) (room : at + length (clause_words (premise ++ (l ∷ []))) ≤ length out) where
  pub clause_room : at + 2 + length premise ≤ length out
  unfolding clause_words
  clause_room = omega (arith, length-append premise (l ∷ []), room)

  -- its count, the premise and then the literal
  module _ (a : ℤ) {part : List ℤ} (q : part ≡ premise) {k : ℕ} (n : k ≡ length premise) where
    abbrev copied : List ℤ
    copied = put_mid (at + 1) k (set out at a) part

    set_kept : length (set out at a) ≡ length out
    set_kept = simp length-set

    copy_wrote : Wrote premise (set out at a) (at + 1) copied (at + 1 + length premise)
    copy_wrote = record { next_is = refl; left = rw (q, n, drop-drop) }

    pub literal_room : at + 1 + length premise < length copied
    literal_room = omega (arith, clause_room, set_kept, wrote_kept (omega (arith, clause_room, set_kept)) copy_wrote)

    pub clause_wrote : a ≡ pos (length premise + 1) → Wrote (clause_words (premise ++ (l ∷ []))) out at (set copied (at + 1 + length premise) l) (at + 1 + length premise + 1)
    unfolding clause_words
    clause_wrote e =
        let c : a ≡ pos (length (premise ++ (l ∷ []))) = e ∙ ap pos (omega (arith, length-append premise (l ∷ []))) in
        rw (← c) (wrote_after out at a (omega (arith, clause_room)) (wrote_then (omega (arith, clause_room, set_kept)) copy_wrote (wrote_store copied (at + 1 + length premise) l literal_room)))

-- ---- an impact

module _ (premise : Clause) (c d u : ℕ) where
  abbrev clauses : List Clause
  clauses = map (λ l. premise ++ (l ∷ [])) (implied c d u)

  pub implied_blank : c ≡ 0 → clauses ≡ (premise ++ (negative u ∷ [])) ∷ []
  unfolding implied
  implied_blank e = rw (eq-eqb c 0 e)

  module _ (some : c ≡ 0 → ⊥) where
    pub implied_color : d ≡ c → clauses ≡ (premise ++ (positive u ∷ [])) ∷ []
    unfolding implied
    implied_color e = rw (ne_eqb c 0 some, eq-eqb d c e)

    pub implied_other : (d ≡ c → ⊥) → (out : List ℤ) (at : ℕ) → Wrote (clauses_words clauses) out at out at
    unfolding implied
    implied_other e out at = rw (ne_eqb c 0 some, ne_eqb d c e) (unfold flat_map in wrote_none out at)

-- one clause
module _ (cs : List Clause) {c : Clause} (e : cs ≡ c ∷ []) where
  pub one_room : (at n : ℕ) → at + length (clauses_words cs) ≤ n → at + length (clause_words c) ≤ n
  one_room at n h = rw (e, clauses_one c) at h

  pub one_wrote : {out out₁ : List ℤ} {at at₁ : ℕ} → Wrote (clause_words c) out at out₁ at₁ → Wrote (clauses_words cs) out at out₁ at₁
  one_wrote w = rw e (said c w)

module _ (cs : List ℕ) (premise : Clause) (v c : ℕ) where
  pub impact_first : (out : List ℤ) (at : ℕ) → at + length (clauses_words (impact_of cs premise v c)) ≤ length out
      → Emitting (length cs) (λ r. clauses_words (map (λ l. premise ++ (l ∷ [])) (implied c (get_or cs r 0) (v + r)))) out at out at 0
  unfolding impact_of
  impact_first out at h = say_first (length cs) _ out at h

  pub impact_done : {out₀ out : List ℤ} {at₀ at r : ℕ} → Emitting (length cs) (λ r. clauses_words (map (λ l. premise ++ (l ∷ [])) (implied c (get_or cs r 0) (v + r)))) out₀ at₀ out at r
      → length cs ≤ r → Wrote (clauses_words (impact_of cs premise v c)) out₀ at₀ out at
  unfolding impact_of
  impact_done E h = say_done (length cs) _ E h
