-- What a rule says of a cell variable and the positions that were found, as its loops write it.
use mathlib.Core.Path.{◌≡◌, sym, ap, ◌∙◌}
use mathlib.Core.List.{List, [], ◌∷◌, ◌++◌, map}
use Prim.Native.Nat.{ℕ, ◌+◌, ◌≤◌, ◌<◌}
use native.Mathlib.Omega.{arith}
use lib.IntN.{ℤ, pos}
use lib.ListN.{length, get_or, set, length-map, length-append, length-set, get_or-map}
use lib.Seq.{ext_get_or}
use Rattle.lists.specs.Each.{each, tab}
use Rattle.lists.specs.Wrote.{Wrote}
use Rattle.lists.proofs.Eaches.{length_tab, get_or_tab}
use Rattle.lists.proofs.Emitting.{Emitting, one_first, one_done}
use Rattle.lists.proofs.Writing.{wrote_then, wrote_store, wrote_after, wrote_kept}
use Rattle.literals.specs.Literals.{positive, negative}
use Rattle.sections.specs.Sections.{clause_words, clauses_words}
use Rattle.sections.proofs.ClauseLists.{clauses_one, say_first, say_done}
use Rattle.cells.specs.declared.rule.Rule.TheVariants.{Color, Space}
use Rattle.cells.specs.Cells.{ruled}

-- an element for each that was found
pub map_each : {A : Type 0} (f : ℕ → A) (us : List ℕ) → map f us ≡ each (length us) (λ k. f (get_or us k 0) ∷ [])
unfolding tab
map_each f us =
    ext_get_or (f 0) (map f us) (tab (length us) (λ k. f (get_or us k 0))) (length-map us f ∙ sym (length_tab (length us) _))
    (λ i h. get_or-map f us i 0 ∙ sym (get_or_tab (length us) (λ k. f (get_or us k 0)) (f 0) i (omega (arith, length-map us f))))

module _ (us : List ℕ) where
  -- ---- their positive literals

  pub found_first : (out : List ℤ) (at : ℕ) → at + length us ≤ length out → Emitting (length us) (λ k. positive (get_or us k 0) ∷ []) out at out (at + 0) 0
  found_first out at h = one_first (length us) (λ k. positive (get_or us k 0)) out at h

  pub found_done : {out₀ out : List ℤ} {at i : ℕ} → Emitting (length us) (λ k. positive (get_or us k 0) ∷ []) out₀ at out (at + i) i → length us ≤ i
      → Wrote (map positive us) out₀ at out (at + length us)
  unfolding tab
  found_done E h = rw (map_each positive us) (one_done E h)

  module _ (v : ℕ) where
    -- ---- 7

    support_is : clauses_words (ruled Color v us) ≡ pos (length us + 1) ∷ (map positive us ++ (negative v ∷ []))
    unfolding ruled clause_words
    support_is = clauses_one _ ∙ rw (length-append, length-map)

    pub support_size : length (clauses_words (ruled Color v us)) ≡ length us + 2
    support_size = omega (arith, ap length support_is, length-append (map positive us) (negative v ∷ []), length-map us positive)

    -- its count, the positions, and the cell variable behind them
    module _ (out : List ℤ) (at : ℕ) (h : at + length (clauses_words (ruled Color v us)) ≤ length out) (n : ℤ) {out₁ : List ℤ} {to : ℕ} (w : Wrote (map positive us) (set out at n) (at + 1) out₁ to) where
      pub support_kept : length out₁ ≡ length out
      support_kept = wrote_kept (rw length-set (omega (arith, support_size, length-map us positive))) w ∙ length-set out at n

      pub support_space : to < length out₁
      support_space = omega (arith, support_kept, w.next_is, support_size, length-map us positive)

      pub support_wrote : {no : ℤ} → n ≡ pos (length us + 1) → no ≡ negative v → Wrote (clauses_words (ruled Color v us)) out at (set out₁ to no) (to + 1)
      support_wrote e q =
          rw support_is (wrote_after out at (pos (length us + 1)) (omega (arith, support_size))
          (wrote_then (rw length-set (omega (arith, support_size))) (rw e at w) (rw q (wrote_store out₁ to (negative v) support_space))))

    -- ---- 8

    pub space_each : ruled Space v us ≡ each (length us) (λ k. (negative (get_or us k 0) ∷ positive v ∷ []) ∷ [])
    unfolding ruled
    space_each = map_each (λ u. negative u ∷ positive v ∷ []) us

    pub space_first : (out : List ℤ) (at : ℕ) → at + length (clauses_words (ruled Space v us)) ≤ length out
        → Emitting (length us) (λ k. clauses_words ((negative (get_or us k 0) ∷ positive v ∷ []) ∷ [])) out at out at 0
    space_first out at h = say_first (length us) _ out at (rw (← space_each) h)

    pub space_done : {out₀ out : List ℤ} {at₀ at i : ℕ} → Emitting (length us) (λ k. clauses_words ((negative (get_or us k 0) ∷ positive v ∷ []) ∷ [])) out₀ at₀ out at i → length us ≤ i
        → Wrote (clauses_words (ruled Space v us)) out₀ at₀ out at
    space_done E h = rw space_each (say_done (length us) _ E h)
