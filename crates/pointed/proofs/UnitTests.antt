-- A unit clause tested, or none.
use mathlib.Core.Path.{◌≡◌, sym, ◌∙◌}
use mathlib.Core.Bool.{Bool, not, or-false}
use mathlib.Core.List.{List, [], ◌∷◌}
use Prim.Native.Nat.{ℕ, ◌+◌, ◌^◌, ◌<◌}
use lib.IntN.{ℤ}
use Rattle.std.specs.Prelude.{Result}
use Rattle.refusals.specs.Verdict.{accepted}
use Rattle.refusals.specs.Told.{told}
use Rattle.refusals.specs.declared.Refusal.{Refusal}
use Rattle.literals.specs.Literals.{positive, negative}
use Rattle.sections.specs.Sections.{Clause}
use Rattle.truth.specs.Truth.{Assignment, literal_true, clause_true}
use Rattle.truth.specs.Tested.{tested, Countable}
use Rattle.truth.proofs.RowTests.{negative_true}

pub unit_room : (p : ℕ) (cs : List Clause) (a : ℤ) → cs ≡ (a ∷ []) ∷ [] → Countable p cs → p + 1 < 2 ^ 63
unit_room p cs a e r = rw e at r

module _ (β : Assignment) (p : ℕ) (cs : List Clause) where
  -- of which it was tested whether it is true
  module _ (v : ℕ) (t : Result ℕ Refusal) {b : Bool} (o : (β : Assignment) (c : Clause) → clause_true β c ≡ b → told t ≡ tested β p (c ∷ [])) where
    pub unit_positive : cs ≡ (positive v ∷ []) ∷ [] → b ≡ β v → told t ≡ tested β p cs
    unfolding clause_true literal_true
    unit_positive e q = rw e (o β _ (or-false (β v) ∙ sym q))

    pub unit_negative : cs ≡ (negative v ∷ []) ∷ [] → 0 < v → b ≡ not (β v) → told t ≡ tested β p cs
    unfolding clause_true
    unit_negative e h q = rw e (o β _ (or-false (literal_true β (negative v)) ∙ negative_true β v h ∙ sym q))

  pub none_tested : cs ≡ [] → accepted p ≡ tested β p cs
  unfolding tested
  none_tested e = rw e
