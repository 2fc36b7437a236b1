-- Document 01: the DIMACS CNF text, in bytes. `p cnf V C`, then a line per clause; literals and 0 parted by one space, a newline after each line, no comments.
use Rattle.std.specs.Prelude.{cond, ℕ, zero, suc, ◌+◌, ◌/◌, ◌%◌, ℤ, ltb, length}
use mathlib.Core.List.{List, [], ◌∷◌, ◌++◌, flat_map}
use Rattle.lists.specs.Each.{when}
use Rattle.literals.specs.Literals.{variable, is_negative}
use Rattle.sections.specs.Sections.{Clause}

-- ---- numbers: decimal digits, most significant first, no leading zero

abbrev pub digit : ℕ → ℕ
digit d = 48 + d

-- at most k of them
unfoldable pub digits_within : ℕ → ℕ → List ℕ
digits_within zero n = []
digits_within (suc k) n = cond (ltb n 10) (digit n ∷ []) (digits_within k (n / 10) ++ (digit (n % 10) ∷ []))

-- n has at most n digits, and 0 has one, so suc n steps are enough
unfoldable pub digits : ℕ → List ℕ
digits n = digits_within (suc n) n

-- ---- lines

abbrev pub space : ℕ
space = 32

abbrev pub newline : ℕ
newline = 10

-- v, or - and v
unfoldable pub literal_text : ℤ → List ℕ
literal_text l = when (is_negative l) (45 ∷ []) ++ digits (variable l)

-- each literal before a space, then 0
unfoldable pub clause_text : Clause → List ℕ
clause_text [] = digit 0 ∷ newline ∷ []
clause_text (l ∷ c) = literal_text l ++ (space ∷ clause_text c)

abbrev pub clauses_text : List Clause → List ℕ
clauses_text cs = flat_map clause_text cs

-- a line of two numbers, each behind its words
abbrev pub numbers_line : List ℕ → ℕ → List ℕ → ℕ → List ℕ
numbers_line before a between b = before ++ (digits a ++ (between ++ (digits b ++ (newline ∷ []))))

-- p cnf
abbrev pub problem : List ℕ
problem = 112 ∷ space ∷ 99 ∷ 110 ∷ 102 ∷ space ∷ []

-- the first line, of v variables and n clauses
unfoldable pub header : ℕ → ℕ → List ℕ
header v n = problem ++ (digits v ++ (space ∷ (digits n ++ (newline ∷ []))))

unfoldable pub text : ℕ → List Clause → List ℕ
text v cs = header v (length cs) ++ clauses_text cs
