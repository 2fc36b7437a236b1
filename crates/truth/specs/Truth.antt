-- What an assignment of the variables makes of literals and clauses.
use Rattle.std.specs.Prelude.{◌≡◌, Bool, true, false, not, ◌&&◌, ◌||◌, List, [], ◌∷◌, ℕ, suc, ◌-◌, eqb, ℤ, pos, negsuc, get_or}
use Rattle.sections.specs.Sections.{Clause}

abbrev pub Assignment : Type 0
Assignment = ℕ → Bool

-- what a model assigns, one byte per variable; variables count from 1
abbrev pub value : List ℕ → Assignment
value model v = eqb (get_or model (v - 1) 0) 1

-- v is true where the variable is, -v where it is not
unfoldable pub literal_true : Assignment → ℤ → Bool
literal_true β (pos v) = β v
literal_true β (negsuc v) = not (β (suc v))

-- some literal is true
unfoldable pub clause_true : Assignment → Clause → Bool
clause_true β [] = false
clause_true β (l ∷ c) = literal_true β l || clause_true β c

-- every clause is true
unfoldable pub all_true : Assignment → List Clause → Bool
all_true β [] = true
all_true β (c ∷ cs) = clause_true β c && all_true β cs

abbrev pub Satisfies : Assignment → List Clause → Type 0
Satisfies β cs = all_true β cs ≡ true
