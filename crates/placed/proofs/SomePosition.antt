-- A clause that says some of n variables, tested literal by literal; and such a clause for each block.
use mathlib.Core.Path.{◌≡◌, refl, ap, ◌∙◌}
use mathlib.Core.Bool.{true, false}
use mathlib.Core.List.{[], ◌∷◌}
use Prim.Native.Nat.{ℕ, ◌+◌, ◌≤◌, ◌<◌}
use native.Mathlib.Omega.{arith}
use native.Mathlib.Nat.{add-zero}
use lib.ListN.{length}
use Rattle.lists.specs.Each.{tab}
use Rattle.lists.proofs.Eaches.{rest, rest_first, rest_next, rest_done, length_tab}
use Rattle.literals.specs.Literals.{positive}
use Rattle.sections.specs.Sections.{at_least_one}
use Rattle.refusals.specs.Verdict.{accepted, refused}
use Rattle.refusals.specs.declared.Refusal.TheVariants.{FalseClause}
use Rattle.truth.specs.Truth.{Assignment, literal_true, clause_true}
use Rattle.truth.specs.Tested.{tested}
use Rattle.truth.proofs.Testing.{Testing, testing_first, testing_stop, testing_next, testing_done}
use Rattle.truth.proofs.RowTests.{one_true, one_false}
use Rattle.numbering.specs.Variables.{Line, many, first_of}
use Rattle.placement.specs.Placement.{block_positions}

-- ---- a loop over the literals: before its turn i the clause is as true as what is left of it

abbrev pub SomeLeft : Assignment → ℕ → ℕ → ℕ → Type 0
SomeLeft β v n i = clause_true β (at_least_one v n) ≡ clause_true β (rest i n (λ k. positive (v + k) ∷ []))

module _ (β : Assignment) (v n : ℕ) where
  pub some_first : SomeLeft β v n 0
  unfolding at_least_one tab
  some_first = ap (clause_true β) (rest_first n _)

  module _ (i : ℕ) (T : SomeLeft β v n i) where
    some_true : i < n → β (v + i) ≡ true → clause_true β (at_least_one v n) ≡ true
    unfolding clause_true literal_true
    some_true l e = T ∙ rw (rest_next i n (λ k. positive (v + k) ∷ []) l, e)

    some_next : i < n → β (v + i) ≡ false → SomeLeft β v n (i + 1)
    unfolding clause_true literal_true
    some_next l e = T ∙ rw (rest_next i n (λ k. positive (v + k) ∷ []) l, e)

    some_false : n ≤ i → clause_true β (at_least_one v n) ≡ false
    unfolding clause_true
    some_false h = T ∙ rw (rest_done i n (λ k. positive (v + k) ∷ []) h)

-- ---- a loop over the blocks of a line, with such a clause for each

abbrev pub BlocksTesting : Assignment → ℕ → Line → ℕ → Type 0
BlocksTesting β at L b = Testing β at (block_positions L) (many L) (λ k. at_least_one (first_of L k) L.positions ∷ []) (at + b) b

-- and in its turn b, before the literal i
pub record BlockTesting (β : Assignment) (at : ℕ) (L : Line) (b v i : ℕ) : Type 0 where
  pub below : b < many L
  pub first_is : v ≡ first_of L b
  pub clauses : BlocksTesting β at L b
  pub left : SomeLeft β v L.positions i

module _ {β : Assignment} {at : ℕ} {L : Line} {b v i : ℕ} (T : BlockTesting β at L b v i) where
  pub literal_true_lem : i < L.positions → β (v + i) ≡ true → BlocksTesting β at L (b + 1)
  literal_true_lem l e =
      let q : at + b + 1 ≡ at + (b + 1) = omega arith in
      rw q at (testing_next T.clauses T.below (rw T.first_is at (one_true β (at + b) _ (some_true β v L.positions i T.left l e))))

  pub literal_false : i < L.positions → β (v + i) ≡ false → BlockTesting β at L b v (i + 1)
  literal_false l e = record { below = T.below; first_is = T.first_is; clauses = T.clauses; left = some_next β v L.positions i T.left l e }

  pub literals_false : L.positions ≤ i → refused 15 (at + b) ≡ tested β at (block_positions L)
  literals_false h = testing_stop T.clauses T.below (FalseClause (at + b)) (rw T.first_is at (one_false β (at + b) _ (some_false β v L.positions i T.left h)))

module _ (L : Line) where
  pub blocks_length : length (block_positions L) ≡ many L
  unfolding block_positions
  blocks_length = length_tab (many L) _

  module _ (β : Assignment) (at : ℕ) where
    pub blocks_first : BlocksTesting β at L 0
    unfolding block_positions tab
    blocks_first = rw add-zero (testing_first β (many L) _ at _ refl)

    pub blocks_done : {b : ℕ} → BlocksTesting β at L b → many L ≤ b → accepted (at + many L) ≡ tested β at (block_positions L)
    blocks_done {b} T h =
        let q : at + b ≡ at + many L = omega (arith, T.room, blocks_length) in
        rw (← q) (testing_done T h)
