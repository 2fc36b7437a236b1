-- Document 01, "DIMACS": clause words of any kind, read from the left. A section is its clause count and its clauses, a clause its literal count and its literals;
-- counts are not negative, literals nonzero and within the variables. 22 at the first word that is wrong, at their number where one is missing.
use mathlib.Core.List.{List, [], flatten}
use Rattle.std.specs.Prelude.{ℕ, ℤ, nat_abs, ltb, length}
use Rattle.refusals.specs.Verdict.{Checks, refuse}
use Rattle.refusals.specs.Walk.{Walk, walked, read_or, word, times, counted}
use Rattle.literals.specs.Literals.{largest, is_negative, off_literal}
use Rattle.sections.specs.Sections.{Clause}

abbrev pub read_literal : ℕ → ℕ → List ℤ → Walk ℤ ℤ
read_literal v = word 22 (off_literal v) 22

abbrev pub read_clause : ℕ → ℕ → List ℤ → Walk ℤ Clause
read_clause v = counted nat_abs (word 22 is_negative 22) (read_literal v)

abbrev pub read_section : ℕ → ℕ → List ℤ → Walk ℤ (List Clause)
read_section v = counted nat_abs (word 22 is_negative 22) (read_clause v)

-- of v variables and n sections: 21 in its order, then 22
abbrev pub word_checks : ℕ → ℕ → List ℤ → Checks
word_checks v n ws =
    refuse (ltb largest v) 21 0 (refuse (ltb 16 n) 21 1 (refuse (ltb 1073741824 (length ws)) 21 2
    (walked 22 (times n (read_section v) 0 ws))))

-- all clauses that they hold, one section after another
abbrev pub clauses_of : ℕ → ℕ → List ℤ → List Clause
clauses_of v n ws = flatten (read_or [] (times n (read_section v) 0 ws))
