-- The blocking clause as a loop writes it: each variable that is on negated.
use mathlib.Core.Path.{◌≡◌, sym, ◌∙◌}
use mathlib.Core.Bool.{true, false}
use mathlib.Core.List.{List, [], ◌∷◌}
use Prim.Native.Nat.{ℕ, ◌+◌, ◌≤◌, ◌<◌}
use native.Mathlib.Omega.{arith}
use lib.IntN.{ℤ, pos}
use lib.ListN.{length, set}
use Rattle.lists.specs.Each.{when}
use Rattle.lists.specs.Wrote.{Wrote}
use Rattle.lists.proofs.Emitting.{Emitting, emit_first, emit_room, emit_next, emit_done}
use Rattle.lists.proofs.Sums.{sum_same, length_each, length_when}
use Rattle.lists.proofs.Writing.{wrote_none, wrote_store, wrote_ahead}
use Rattle.literals.specs.Literals.{negative}
use Rattle.sections.specs.Sections.{clause_words}
use Rattle.truth.specs.Truth.{Assignment}
use Rattle.checker.specs.Models.{trues}
use Rattle.models.specs.Shown.{negated}

abbrev pub Negating : Assignment → ℕ → ℕ → List ℤ → ℕ → List ℤ → ℕ → ℕ → Type 0
Negating β v n = Emitting n (λ k. when (β (v + k)) (negative (v + k) ∷ []))

module _ (β : Assignment) (v n : ℕ) where
  pub negating_first : (out : List ℤ) (at : ℕ) → at + length (negated β v n) ≤ length out → Negating β v n out at out at 0
  unfolding negated
  negating_first out at h = emit_first n _ out at h

  module _ {out₀ out : List ℤ} {at₀ at k : ℕ} (E : Negating β v n out₀ at₀ out at k) where
    module _ (h : k < n) where
      pub negating_skip : β (v + k) ≡ false → Negating β v n out₀ at₀ out at (k + 1)
      negating_skip e = emit_next E h (rw e (wrote_none out at))

      module _ (e : β (v + k) ≡ true) where
        pub negating_room : at < length out
        negating_room = let q : length (when (β (v + k)) (negative (v + k) ∷ [])) ≡ 1 = rw e in omega (arith, emit_room E h, q)

        pub negating_next : {z : ℤ} → z ≡ negative (v + k) → Negating β v n out₀ at₀ (set out at z) (at + 1) (k + 1)
        negating_next q = emit_next E h (rw (e, q) (wrote_store out at _ negating_room))

    pub negating_done : n ≤ k → Wrote (negated β v n) out₀ at₀ out at
    unfolding negated
    negating_done h = emit_done E h

  -- behind their count
  pub blocking_wrote : (out : List ℤ) → 0 < length out → {z : ℤ} → z ≡ pos (length (negated β v n)) → {out' : List ℤ} {to : ℕ} → Wrote (negated β v n) out 1 out' to
      → Wrote (clause_words (negated β v n)) out 0 (set out' 0 z) to
  unfolding clause_words
  blocking_wrote out h e w = rw e (wrote_ahead out 0 _ h w)

-- as many are negated as are true
pub trues_negated : (β : Assignment) (v n : ℕ) → trues β v n ≡ length (negated β v n)
unfolding trues negated
trues_negated β v n = sym (length_each n _ ∙ sum_same n _ _ (λ k l. length_when (β (v + k)) (negative (v + k))))
