-- The tests of a row of clauses, and of the rows that say no two.
use mathlib.Core.Path.{◌≡◌, refl, sym, ◌∙◌}
use mathlib.Core.Bool.{true, false, not, or-false}
use mathlib.Core.List.{[], ◌∷◌}
use Prim.Native.Nat.{ℕ, zero, suc, ◌+◌, ◌-◌, ◌≤◌, ◌<◌}
use native.Mathlib.Omega.{arith}
use native.Mathlib.Nat.{add-zero}
use lib.ListN.{length}
use Rattle.lists.specs.Each.{each, tab}
use Rattle.lists.proofs.Eaches.{length_tab}
use Rattle.refusals.specs.Verdict.{accepted, refused}
use Rattle.refusals.specs.declared.Refusal.TheVariants.{FalseClause}
use Rattle.literals.specs.Literals.{negative}
use Rattle.sections.specs.Sections.{Clause, not_both, at_most_one, row}
use Rattle.sections.proofs.Rows.{once_rows}
use Rattle.truth.specs.Truth.{Assignment, literal_true, clause_true}
use Rattle.truth.specs.Tested.{tested}
use Rattle.truth.proofs.Testing.{tested_on, Testing, testing_first, testing_next, testing_stop, testing_done}

pub negative_true : (β : Assignment) (v : ℕ) → 0 < v → literal_true β (negative v) ≡ not (β v)
unfolding literal_true
negative_true β zero h = absurd (omega arith)
negative_true β (suc v) h = refl

pub row_length : (x y n : ℕ) → length (row x y n) ≡ n
unfolding row
row_length x y n = length_tab n _

-- ---- a single clause

module _ (β : Assignment) (p : ℕ) (c : Clause) where
  pub one_true : clause_true β c ≡ true → accepted (p + 1) ≡ tested β p (c ∷ [])
  unfolding tested
  one_true e = rw e

  pub one_false : clause_true β c ≡ false → refused 15 p ≡ tested β p (c ∷ [])
  unfolding tested
  one_false e = rw e

-- ---- a row

module _ (β : Assignment) where
  pub tab_true : (n p : ℕ) (f : ℕ → Clause) → ((k : ℕ) → k < n → clause_true β (f k) ≡ true) → accepted (p + n) ≡ tested β p (tab n f)
  unfolding tab each tested
  tab_true zero p f h = rw add-zero
  tab_true (suc n) p f h =
      let e : p + n + 1 ≡ p + suc n = omega arith in
      rw (← e) (one_true β (p + n) (f n) (h n (omega arith)) ∙ sym (tested_on β p (p + n) (tab n f) (f n ∷ []) (tab_true n p f (λ k l. h k (omega arith)))))

-- a loop over it, whose turn j tests its j-th clause
abbrev pub RowTesting : Assignment → ℕ → ℕ → ℕ → ℕ → ℕ → Type 0
RowTesting β x y n p j = Testing β p (row x y n) n (λ j. not_both x (y + j) ∷ []) (p + j) j

module _ (β : Assignment) (x y n : ℕ) (hx : 0 < x) (hy : 0 < y) where
  -- x is not on: they are all true
  off_clause : (j : ℕ) → β x ≡ false → clause_true β (not_both x (y + j)) ≡ true
  unfolding clause_true
  off_clause j e = rw (negative_true β x hx, e)

  pub row_off : (p : ℕ) → β x ≡ false → accepted (p + n) ≡ tested β p (row x y n)
  unfolding row
  row_off p e = tab_true β n p (λ j. not_both x (y + j)) (λ j l. off_clause j e)

  pub row_first : (p : ℕ) → RowTesting β x y n p 0
  unfolding row tab
  row_first p = rw add-zero (testing_first β n _ p _ refl)

  module _ (p j : ℕ) (on : β x ≡ true) (T : RowTesting β x y n p j) where
    clause_is : clause_true β (not_both x (y + j)) ≡ not (β (y + j))
    unfolding clause_true
    clause_is = rw (negative_true β x hx, on, negative_true β (y + j) (omega arith)) (or-false (not (β (y + j))))

    pub row_stop : j < n → β (y + j) ≡ true → refused 15 (p + j) ≡ tested β p (row x y n)
    row_stop l e = testing_stop T l (FalseClause (p + j)) (one_false β (p + j) _ (clause_is ∙ rw e))

    pub row_next : j < n → β (y + j) ≡ false → RowTesting β x y n p (j + 1)
    row_next l e =
        let q : p + j + 1 ≡ p + (j + 1) = omega arith in
        rw q at (testing_next T l (one_true β (p + j) _ (clause_is ∙ rw e)))

  pub row_done : (p j : ℕ) → RowTesting β x y n p j → n ≤ j → accepted (p + n) ≡ tested β p (row x y n)
  row_done p j T h =
      let e : p + j ≡ p + n = omega (arith, T.room, row_length x y n) in
      rw (← e) (testing_done T h)

-- ---- no two: for each a row of those after it

abbrev pub OnceTesting : Assignment → ℕ → ℕ → ℕ → ℕ → ℕ → Type 0
OnceTesting β v n p q i = Testing β p (at_most_one v n) n (λ i. row (v + i) (v + i + 1) (n - 1 - i)) q i

pub once_first : (β : Assignment) (v n p : ℕ) → OnceTesting β v n p p 0
once_first β v n p = testing_first β n _ p _ (once_rows v n)
