-- What a mask says of a colour: a unit clause, or nothing.
use mathlib.Core.Path.{◌≡◌}
use mathlib.Core.Bool.{true, false}
use mathlib.Core.List.{List, [], ◌∷◌, flat_map}
use Prim.Native.Nat.{ℕ, ◌+◌, ◌≤◌}
use lib.IntN.{ℤ}
use lib.ListN.{length}
use Rattle.lists.specs.Wrote.{Wrote}
use Rattle.lists.proofs.Writing.{wrote_none}
use Rattle.literals.specs.Literals.{positive, negative}
use Rattle.sections.specs.Sections.{Clause, clause_words, clauses_words}
use Rattle.sections.proofs.ClauseLists.{said}
use Rattle.bits.specs.Bits.{bit, solved}
use Rattle.cells.specs.Cells.{precomputed}

module _ (mask c v : ℕ) where
  module _ (one : solved mask ≡ true) where
    pub solved_blank : bit mask 0 ≡ true → precomputed mask c v ≡ (negative v ∷ []) ∷ []
    unfolding precomputed
    solved_blank e = rw (one, e)

    pub solved_color : bit mask 0 ≡ false → bit mask c ≡ true → precomputed mask c v ≡ (positive v ∷ []) ∷ []
    unfolding precomputed
    solved_color e q = rw (one, e, q)

    pub solved_other : bit mask 0 ≡ false → bit mask c ≡ false → precomputed mask c v ≡ []
    unfolding precomputed
    solved_other e q = rw (one, e, q)

  module _ (more : solved mask ≡ false) where
    pub unsolved_open : bit mask c ≡ true → precomputed mask c v ≡ []
    unfolding precomputed
    unsolved_open q = rw (more, q)

    pub unsolved_excluded : bit mask c ≡ false → precomputed mask c v ≡ (negative v ∷ []) ∷ []
    unfolding precomputed
    unsolved_excluded q = rw (more, q)

-- ---- a unit clause, or nothing

module _ (cs : List Clause) (a : ℤ) (e : cs ≡ (a ∷ []) ∷ []) where
  pub unit_room : (at n : ℕ) → at + length (clauses_words cs) ≤ n → at + 2 ≤ n
  unfolding flat_map clause_words
  unit_room at n h = rw e at h

  pub unit_wrote : {z : ℤ} → z ≡ a → {out out₁ : List ℤ} {at at₁ : ℕ} → Wrote (clause_words (z ∷ [])) out at out₁ at₁ → Wrote (clauses_words cs) out at out₁ at₁
  unit_wrote q w = rw e (said (a ∷ []) (rw q at w))

pub none_wrote : (cs : List Clause) → cs ≡ [] → (out : List ℤ) (at : ℕ) → Wrote (clauses_words cs) out at out at
none_wrote cs e out at = rw e (unfold flat_map in wrote_none out at)
