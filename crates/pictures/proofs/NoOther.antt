-- What a solver's "no" means: where nothing satisfies the clauses any more, the models whose pictures were blocked show every picture.
use mathlib.Core.Path.{◌≡◌, refl, ap}
use mathlib.Core.List.{List, [], ◌∷◌, map, List-discrete}
use mathlib.Core.Logic.{◌⊎◌, inl, inr}
use Prim.Native.Nat.{ℕ, zero, suc, ◌<◌}
use native.Mathlib.Omega.{arith}
use native.Mathlib.Decide.{ℕ_discrete}
use lib.ListN.{length, get_or, length-map}
use Rattle.lists.proofs.Everys.{every_one}
use Rattle.puzzles.specs.Puzzle.{Puzzle}
use Rattle.truth.specs.Truth.{value}
use Rattle.pictures.specs.Pictures.{Model, Solves, shown, blocking, member, Blocking, OneToOne, NoOther, ExactlyOne}

-- some element has it, or none has
one_or_none : {A : Type 0} (d : A) {P : A → Type 0} → ((a : A) → Dec (P a)) → (l : List A)
    → ((i : ℕ) × (i < length l) × P (get_or l i d)) ⊎ ((i : ℕ) → i < length l → P (get_or l i d) → ⊥)
one_or_none d dec [] = inr (λ i h p. absurd (omega arith))
one_or_none d {P} dec (a ∷ l) = elim (dec a) [
  | yes p ↦ inl (0, omega arith, p)
  | no n ↦ elim (one_or_none d dec l) [
    | inl s ↦ inl (suc s.0, omega (arith, s.1), s.2)
    | inr none ↦ inr (λ i. elim i as (λ i. i < length (a ∷ l) → P (get_or (a ∷ l) i d) → ⊥) [ zero ↦ λ h p. n p | suc i ↦ λ h p. none i (omega arith) p ])
  ]
]

-- the assignments of models
member_is : (ms : List (List ℕ)) (i : ℕ) → i < length ms → member (map value ms) i ≡ value (get_or ms i [])
member_is [] i h = absurd (omega arith)
member_is (m ∷ ms) zero h = refl
member_is (m ∷ ms) (suc i) h = member_is ms i (omega arith)

blocking_all : (z : Puzzle) (ms : List (List ℕ)) → map (blocking z) (map value ms) ≡ map (λ m. blocking z (value m)) ms
blocking_all z [] = refl
blocking_all z (m ∷ ms) = ap (λ cs. blocking z (value m) ∷ cs) (blocking_all z ms)

module _ (z : Puzzle) (blocked : Blocking z) where
  -- a picture that none of them shows would be left
  pub no_other : NoOther z
  no_other ms solved none grid Q P = elim (one_or_none [] (λ m. List-discrete ℕ_discrete (shown z (value m)) grid) ms) [
    | inl s ↦ s
    | inr other ↦
        let few = length-map ms value in
        let left = (blocked (map value ms)
        (λ i h. rw (member_is ms i (omega (arith, few))) (solved i (omega (arith, few))).1) grid Q
        ).1 (P, λ i h e. other i (omega (arith, few)) (rw (member_is ms i (omega (arith, few))) at e)) in
        absurd (none left.0 (rw (blocking_all z ms) at left.1))
  ]

  pub exactly_one : OneToOne z → ExactlyOne z
  exactly_one O m M s none =
      let (Q, P, _) = O.shows (value m) s in
      let ms-solve = every_one [] (λ m. Model z m × Solves z (value m)) m (M, s) in
      (Q, P, λ grid R T. only (no_other (m ∷ []) ms-solve none grid R T))
    where
      only : {grid : List ℕ} → (i : ℕ) × (i < 1) × (shown z (value (get_or (m ∷ []) i [])) ≡ grid) → shown z (value m) ≡ grid
      only (zero, h, e) = e
      only (suc i, h, e) = absurd (omega arith)
