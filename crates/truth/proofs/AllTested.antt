-- Clauses pass the test exactly when they are all true.
use mathlib.Core.Path.{◌≡◌, refl}
use mathlib.Core.Bool.{Bool, true, false, not}
use mathlib.Core.List.{List, [], ◌∷◌}
use Prim.Native.Nat.{ℕ, ◌+◌}
use native.Mathlib.Omega.{arith}
use Rattle.lists.proofs.Tests.{both, not_false}
use Rattle.refusals.specs.Verdict.{Verdict, Checks, accepted, refused, passed, refuse, first_off}
use Rattle.refusals.proofs.Answering.{refuse_accepted}
use Rattle.sections.specs.Sections.{Clause}
use Rattle.truth.specs.Truth.{Assignment, clause_true, all_true, Satisfies}
use Rattle.truth.specs.Tested.{tested}

module _ (β : Assignment) where
  -- as a check, 15 at the first that is false
  abbrev Checked : ℕ → List Clause → Checks
  Checked p cs = first_off (λ c. not (clause_true β c)) 15 p cs

  module _ {m q : ℕ} where
    same : (b : Bool) (p : ℕ) (u : Checks) (v : Verdict ℕ) → (refused m q ≡ v → refused m q ≡ u) → refused m q ≡ refuse b 15 p v → refused m q ≡ refuse b 15 p u
    same true p u v h e = let k : m ≡ 15 = cc in let s : q ≡ p = cc in rw (k, s)
    same false p u v h e = h e

    pub tested_refused : (p : ℕ) (cs : List Clause) → refused m q ≡ tested β p cs → refused m q ≡ Checked p cs
    unfolding tested first_off
    tested_refused p [] e = let z : ◌≡◌ {A = ℕ} 0 1 = cc in absurd (omega arith)
    tested_refused p (c ∷ cs) e = same (not (clause_true β c)) p _ _ (tested_refused (p + 1) cs) e

  pub tested_false : (p : ℕ) (cs : List Clause) {q : ℕ} → refused 15 q ≡ tested β p cs → refused 15 q ≡ Checked p cs
  tested_false p cs e = tested_refused p cs e

  pub tested_fine : (p : ℕ) (cs : List Clause) {q : ℕ} → accepted q ≡ tested β p cs → passed ≡ Checked p cs
  unfolding tested first_off
  tested_fine p [] e = refl
  tested_fine p (c ∷ cs) e =
      let r = refuse_accepted (not (clause_true β c)) 15 p _ e in
      rw r.0 (tested_fine (p + 1) cs r.1)

  pub passed_true : (p : ℕ) (cs : List Clause) → passed ≡ Checked p cs → Satisfies β cs
  unfolding first_off all_true
  passed_true p [] e = refl
  passed_true p (c ∷ cs) e =
      let r = refuse_accepted (not (clause_true β c)) 15 p _ e in
      rw (not_false (clause_true β c) r.0) (passed_true (p + 1) cs r.1)

  pub true_passed : (p : ℕ) (cs : List Clause) → Satisfies β cs → passed ≡ Checked p cs
  unfolding first_off all_true
  true_passed p [] h = refl
  true_passed p (c ∷ cs) h =
      let t = both (clause_true β c) (all_true β cs) h in
      rw t.0 (true_passed (p + 1) cs t.1)
