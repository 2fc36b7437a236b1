-- Clause words among which none is wrong, and the clauses that a loop finds in them. It needs no number of sections: where the section that it is in
-- has no clause left, the next word counts the clauses of another.
use Rattle.std.specs.Prelude.{◌≡◌, List, [], ◌∷◌, ◌++◌, ℕ, zero, suc, ◌≤◌, pos, nat_abs, ℤ, length, take, drop}
use Rattle.lists.specs.Each.{Every}
use Rattle.literals.specs.Literals.{IsVariable, variable}
use Rattle.sections.specs.Sections.{Clause, clauses_words, sections_words}

abbrev pub AreVariables : Clause → Type 0
AreVariables c = Every (pos 0) (λ l. IsVariable (variable l)) c

abbrev pub SectionFine : List Clause → Type 0
SectionFine cs = Every [] AreVariables cs

-- they are the words of sections, and no more
pub record Formed (ws : List ℤ) : Type 0 where
  pub sections : List (List Clause)
  pub words_are : ws ≡ sections_words sections
  pub fine : Every [] SectionFine sections
  pub few : length ws ≤ 1073741824

-- those of at most k counts, with `left` in the section that the loop is in
unfoldable pub clauses_from : ℕ → ℕ → List ℤ → List Clause
clauses_from zero left ws = []
clauses_from (suc k) left [] = []
clauses_from (suc k) zero (x ∷ ws) = clauses_from k (nat_abs x) ws
clauses_from (suc k) (suc left) (x ∷ ws) = take (nat_abs x) ws ∷ clauses_from k left (drop (nat_abs x) ws)

abbrev pub clauses_ahead : ℕ → List ℤ → List Clause
clauses_ahead left ws = clauses_from (length ws) left ws

unfoldable pub clauses_in : List ℤ → List Clause
clauses_in ws = clauses_ahead 0 ws

-- the words behind the walk's place: of the clauses left in the section that it is in, and of the sections behind it
abbrev pub ahead_words : List Clause → List (List Clause) → List ℤ
ahead_words cs ss = clauses_words cs ++ sections_words ss

pub record Ahead (left : ℕ) (ws : List ℤ) : Type 0 where
  pub begun : List Clause
  pub behind : List (List Clause)
  pub words_are : ws ≡ ahead_words begun behind
  pub left_is : left ≡ length begun
