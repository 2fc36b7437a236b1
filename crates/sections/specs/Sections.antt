-- Document 01: clauses and sections, and the words of a clause buffer.
use mathlib.Core.List.{List, [], ◌∷◌, flat_map}
use Rattle.std.specs.Prelude.{ℕ, ◌+◌, ℤ, pos, length}
use Rattle.lists.specs.Each.{tab, pairs}
use Rattle.literals.specs.Literals.{positive, negative}

-- a list of literals
abbrev pub Clause : Type 0
Clause = List ℤ

-- ---- its words

-- its literal count and literals
unfoldable pub clause_words : Clause → List ℤ
clause_words c = pos (length c) ∷ c

abbrev pub clauses_words : List Clause → List ℤ
clauses_words cs = flat_map clause_words cs

-- a section's clause count, then its clauses
unfoldable pub section_words : List Clause → List ℤ
section_words cs = pos (length cs) ∷ clauses_words cs

abbrev pub sections_words : List (List Clause) → List ℤ
sections_words ss = flat_map section_words ss

-- how many literals clauses have
unfoldable pub literals : List Clause → ℕ
literals [] = 0
literals (c ∷ cs) = length c + literals cs

-- ---- clauses about variables

-- not both
abbrev pub not_both : ℕ → ℕ → Clause
not_both u v = negative u ∷ negative v ∷ []

-- some of the n variables from v on
unfoldable pub at_least_one : ℕ → ℕ → Clause
at_least_one v n = tab n (λ i. positive (v + i))

-- no two of the n variables from v on; pairs first outer
unfoldable pub at_most_one : ℕ → ℕ → List Clause
at_most_one v n = pairs n (λ i j. not_both (v + i) (v + j) ∷ [])

-- x with none of the n variables from y on
unfoldable pub row : ℕ → ℕ → ℕ → List Clause
row x y n = tab n (λ j. not_both x (y + j))
