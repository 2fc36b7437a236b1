-- A model is accepted exactly when it is one and all clauses are true; and what is then shown is a picture.
use mathlib.Core.Path.{◌≡◌, refl, sym}
use mathlib.Core.Bool.{Bool, true, false, not, cond}
use mathlib.Core.List.{List}
use Prim.Native.Nat.{ℕ, zero, suc, ◌+◌, ◌*◌, ◌≤◌, ◌<◌}
use native.Mathlib.Omega.{arith}
use lib.Dec.{eqb, ltb}
use lib.ListN.{length}
use borrow.Author.Tests.{eq-eqb, le-ltb, eqb-true, ltb-false}
use Rattle.lists.specs.Each.{tab, sum}
use Rattle.lists.proofs.Eaches.{length_tab, get_or_tab}
use Rattle.lists.proofs.Tests.{not_false}
use Rattle.refusals.specs.Verdict.{passed}
use Rattle.refusals.proofs.Answering.{refuse_accepted, then_accepted, first_accepted}
use Rattle.refusals.specs.Stops.{Never}
use Rattle.refusals.proofs.Offending.{none_off, off_none}
use Rattle.refusals.proofs.Never.{accepted_never, passed_never, refuse_never, then_never, first_never}
use Rattle.truth.specs.Truth.{Assignment, value, clause_true}
use Rattle.truth.proofs.AllTested.{passed_true, true_passed}
use Rattle.puzzles.specs.Puzzle.{Puzzle, width, height}
use Rattle.puzzles.specs.Checks.{puzzle}
use Rattle.numbering.specs.Variables.{hues, cell_first, variables, first_cell}
use Rattle.counts.specs.Families.{clauses}
use Rattle.pictures.specs.Meaning.{NotBoth, OneColor}
use Rattle.pictures.specs.Pictures.{Solves, Model}
use Rattle.pictures.proofs.EachFamily.{solved_said}
use Rattle.pictures.proofs.ShownGrid.{each_cell}
use Rattle.pictures.proofs.Theorem.{condition_3}
use Rattle.checker.specs.Models.{trues, value_checks, clause_checks, cell_checks, model_checks}
use Rattle.checker.specs.Accepted.{ModelsAccepted, PicturesShown}

-- ---- no cell has two colours

module _ (β : Assignment) (v : ℕ) where
  trues_no : (n : ℕ) → ((r : ℕ) → r < n → β (v + r) ≡ false) → trues β v n ≡ 0
  unfolding trues sum
  trues_no zero h = refl
  trues_no (suc n) h = rw (h n (omega arith), trues_no n (λ r l. h r (omega arith)))

  trues_few : (n : ℕ) → ((r s : ℕ) → r < s → s < n → NotBoth β (v + r) (v + s)) → trues β v n ≤ 1
  unfolding trues sum
  trues_few zero h = omega arith
  trues_few (suc n) h = cases (β (v + n)) refl (trues_few n (λ r s l m. h r s l (omega arith)))
    where
      off : β (v + n) ≡ true → (r : ℕ) → r < n → (b : Bool) → β (v + r) ≡ b → b ≡ false
      off e r l true q = absurd (h r n l (omega arith) q e)
      off e r l false q = refl

      cases : (b : Bool) → β (v + n) ≡ b → trues β v n ≤ 1 → trues β v n + cond b 1 0 ≤ 1
      cases true e _ = omega (arith, trues_no n (λ r l. off e r l (β (v + r)) refl))
      cases false e few = omega arith

module _ (z : Puzzle) (β : Assignment) where
  abbrev few : ℕ → Type 0
  few i = trues β (first_cell z + i * hues z) (hues z) ≤ 1

  one_each : OneColor z β → (i : ℕ) → i < width z * height z → few i
  unfolding cell_first
  one_each h = each_cell z few (λ x y l m. trues_few β _ (hues z) (λ r s k n. h x y r s l m k n))

  -- 16 is never given
  one_passes : OneColor z β → cell_checks β (first_cell z) (width z * height z) (hues z) ≡ passed
  one_passes h =
      let f : ℕ → ℕ = λ i. trues β (first_cell z + i * hues z) (hues z) in
      off_none 0 (λ m. ltb 1 m) 16 0 (tab (width z * height z) f) (λ i l.
      let k : i < width z * height z = omega (arith, length_tab (width z * height z) f) in
      rw (get_or_tab (width z * height z) f 0 i k) (le-ltb 1 _ (one_each h i k)))

-- ---- what passes

module _ (z : Puzzle) (model : List ℕ) where
  pub accepted_model : passed ≡ model_checks z model → Model z model × Solves z (value model)
  unfolding model_checks
  accepted_model e =
      let a = refuse_accepted (not (eqb (length model) (variables z))) 13 (variables z) _ e in
      let b = then_accepted (value_checks model) _ a.1 in (
        record {
          size = eqb-true (length model) (variables z) (not_false (eqb (length model) (variables z)) a.0);
          bytes = λ i l. ltb-false 1 _ (none_off 0 (λ b. ltb 1 b) 14 0 model (first_accepted (value_checks model) _ a.1) i l);
        },
        passed_true (value model) 0 (clauses z) (first_accepted (clause_checks (value model) (clauses z)) _ b),
      )

  model_accepted : Model z model → Solves z (value model) → passed ≡ model_checks z model
  unfolding model_checks
  model_accepted M s =
      rw (eq-eqb (length model) (variables z) M.size, off_none 0 (λ b. ltb 1 b) 14 0 model (λ i l. le-ltb 1 _ (M.bytes i l)), ← true_passed (value model) 0 (clauses z) s)
      (sym (one_passes z (value model) ((solved_said z (value model)).0 s).one_color))

pub models_accepted : ModelsAccepted
models_accepted ws model h = (accepted_model (puzzle ws) model, λ a. model_accepted (puzzle ws) model a.0 a.1)

pub pictures_shown : PicturesShown
pictures_shown ws model h e = (condition_3 ws h).count.shows (value model) (accepted_model (puzzle ws) model e).1

-- ---- 16 is never given

pub model_never : (z : Puzzle) (model : List ℕ) → Never 16 (model_checks z model)
unfolding model_checks
model_never z model =
    let β = value model in
    let cells : passed ≡ clause_checks β (clauses z) → Never 16 (cell_checks β (first_cell z) (width z * height z) (hues z)) = λ e.
    rw (one_passes z β ((solved_said z β).0 (passed_true β 0 (clauses z) e)).one_color) (accepted_never 16) in
    let fourteen = first_never 16 (λ b. ltb 1 b) {k = 14} (λ e. omega arith) 0 model in
    let fifteen = first_never 16 (λ c. not (clause_true β c)) {k = 15} (λ e. omega arith) 0 (clauses z) in
    refuse_never 16 (then_never 16 (passed_never 16 (clause_checks β (clauses z)) fifteen cells) (value_checks model) fourteen) (not (eqb (length model) (variables z))) (variables z) (λ e. omega arith)
