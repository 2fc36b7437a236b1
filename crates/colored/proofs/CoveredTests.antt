-- What 7 says of a cell variable and the positions that cover the cell, tested literal by literal; and such a clause for each of its two lines.
use mathlib.Core.Path.{◌≡◌, refl, ap, ◌∙◌}
use mathlib.Core.Bool.{true, false, or-true}
use mathlib.Core.List.{List, [], ◌∷◌, ◌++◌, map}
use Prim.Native.Nat.{ℕ, ◌+◌, ◌≤◌, ◌<◌}
use native.Mathlib.Omega.{arith}
use native.Mathlib.Nat.{add-zero}
use lib.IntN.{ℤ}
use lib.ListN.{length, get_or}
use Rattle.lists.specs.Each.{each}
use Rattle.lists.proofs.Eaches.{rest, rest_first, rest_next, rest_done}
use Rattle.literals.specs.Literals.{positive, negative}
use Rattle.sections.specs.Sections.{Clause}
use Rattle.refusals.specs.Verdict.{accepted, refused}
use Rattle.refusals.specs.declared.Refusal.TheVariants.{FalseClause}
use Rattle.truth.specs.Truth.{Assignment, literal_true, clause_true}
use Rattle.truth.specs.Tested.{tested}
use Rattle.truth.proofs.Testing.{Testing, testing_first, testing_stop, testing_next, testing_done}
use Rattle.truth.proofs.RowTests.{negative_true, one_true, one_false}
use Rattle.puzzles.specs.Puzzle.{Puzzle}
use Rattle.cells.specs.declared.rule.Rule.TheVariants.{Color}
use Rattle.cells.specs.Cells.{ruled}
use Rattle.cells.proofs.Ruling.{map_each}
use Rattle.colored.specs.Sides.{on_side, of_side}

module _ (β : Assignment) where
  -- ---- a loop over the positions: before its turn i the clause is as true as what is left of it

  abbrev pub Seeking : List ℕ → ℕ → Type 0
  Seeking us i = clause_true β (map positive us) ≡ clause_true β (rest i (length us) (λ k. positive (get_or us k 0) ∷ []))

  module _ (us : List ℕ) where
    pub seeking_first : Seeking us 0
    seeking_first = ap (clause_true β) (map_each positive us ∙ rest_first (length us) _)

    module _ {i : ℕ} (S : Seeking us i) where
      seeking_true : i < length us → β (get_or us i 0) ≡ true → clause_true β (map positive us) ≡ true
      unfolding clause_true literal_true
      seeking_true l e = S ∙ rw (rest_next i (length us) (λ k. positive (get_or us k 0) ∷ []) l, e)

      pub seeking_next : i < length us → β (get_or us i 0) ≡ false → Seeking us (i + 1)
      unfolding clause_true literal_true
      seeking_next l e = S ∙ rw (rest_next i (length us) (λ k. positive (get_or us k 0) ∷ []) l, e)

      seeking_false : length us ≤ i → clause_true β (map positive us) ≡ false
      unfolding clause_true
      seeking_false h = S ∙ rw (rest_done i (length us) (λ k. positive (get_or us k 0) ∷ []) h)

  -- ---- a clause with one literal more

  last_true : (c : Clause) (l : ℤ) → literal_true β l ≡ true → clause_true β (c ++ (l ∷ [])) ≡ true
  unfolding clause_true
  last_true [] l e = rw e
  last_true (m ∷ c) l e = rw (last_true c l e) (or-true (literal_true β m))

  last_false : (c : Clause) (l : ℤ) → literal_true β l ≡ false → clause_true β (c ++ (l ∷ [])) ≡ clause_true β c
  unfolding clause_true
  last_false [] l e = rw e
  last_false (m ∷ c) l e = rw (last_false c l e)

-- ---- a loop over the clauses of a cell's two lines

module _ (β : Assignment) (z : Puzzle) (c v x row y at : ℕ) where
  abbrev pub SidesTesting : ℕ → Type 0
  SidesTesting s = Testing β at (each 2 (of_side z Color c v x row y)) 2 (of_side z Color c v x row y) (at + s) s

  pub sides_first : SidesTesting 0
  sides_first = rw add-zero (testing_first β 2 _ at _ refl)

  -- in its turn s
  module _ {s : ℕ} (T : SidesTesting s) (h : s < 2) (some : 0 < v) where
    abbrev clause : Clause
    clause = map positive (on_side z c x row y s) ++ (negative v ∷ [])

    side_true : clause_true β clause ≡ true → SidesTesting (s + 1)
    unfolding ruled
    side_true e =
        let q : at + s + 1 ≡ at + (s + 1) = omega arith in
        rw q at (testing_next T h (one_true β (at + s) _ e))

    pub side_off : β v ≡ false → SidesTesting (s + 1)
    side_off e = side_true (last_true β (map positive (on_side z c x row y s)) (negative v) (negative_true β v some ∙ rw e))

    module _ (on : β v ≡ true) {i : ℕ} (S : Seeking β (on_side z c x row y s) i) where
      pub side_on : i < length (on_side z c x row y s) → β (get_or (on_side z c x row y s) i 0) ≡ true → SidesTesting (s + 1)
      side_on l e = side_true (last_false β (map positive (on_side z c x row y s)) (negative v) (negative_true β v some ∙ rw on) ∙ seeking_true β (on_side z c x row y s) S l e)

      pub side_false : length (on_side z c x row y s) ≤ i → refused 15 (at + s) ≡ tested β at (each 2 (of_side z Color c v x row y))
      unfolding ruled
      side_false l = testing_stop T h (FalseClause (at + s)) (one_false β (at + s) _ (last_false β (map positive (on_side z c x row y s)) (negative v) (negative_true β v some ∙ rw on) ∙ seeking_false β (on_side z c x row y s) S l))

  pub sides_done : {s : ℕ} → SidesTesting s → 2 ≤ s → accepted (at + 2) ≡ tested β at (each 2 (of_side z Color c v x row y))
  unfolding ruled each
  sides_done {s} T h =
      let q : at + s ≡ at + 2 = omega (arith, T.room) in
      rw (← q) (testing_done T h)
