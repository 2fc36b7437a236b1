-- Document 01, "Refusal numbers": the order for models. After the puzzle come 13, 14, 15, 16.
use Rattle.std.specs.Prelude.{not, cond, List, ℕ, ◌+◌, ◌*◌, eqb, ltb, length}
use Rattle.lists.specs.Each.{tab, sum}
use Rattle.refusals.specs.Verdict.{Checks, refuse, and_then, first_off}
use Rattle.sections.specs.Sections.{Clause}
use Rattle.truth.specs.Truth.{Assignment, value, clause_true}
use Rattle.puzzles.specs.Puzzle.{Puzzle, width, height}
use Rattle.numbering.specs.Variables.{hues, variables, first_cell}
use Rattle.counts.specs.Families.{clauses}

-- how many of the n variables from v on are true
unfoldable pub trues : Assignment → ℕ → ℕ → ℕ
trues β v n = sum n (λ r. cond (β (v + r)) 1 0)

-- 14: a byte that is not 0 or 1
abbrev pub value_checks : List ℕ → Checks
value_checks model = first_off (λ b. ltb 1 b) 14 0 model

-- 15: a clause that is false
abbrev pub clause_checks : Assignment → List Clause → Checks
clause_checks β cs = first_off (λ c. not (clause_true β c)) 15 0 cs

-- 16: of n cells of k colours whose variables begin at v, one that has two true ones
abbrev pub cell_checks : Assignment → ℕ → ℕ → ℕ → Checks
cell_checks β v n k = first_off (λ m. ltb 1 m) 16 0 (tab n (λ i. trues β (v + i * k) k))

-- of the clauses of the ten sections
unfoldable pub model_checks : Puzzle → List ℕ → Checks
model_checks z model =
    refuse (not (eqb (length model) (variables z))) 13 (variables z)
    (and_then (value_checks model)
    (and_then (clause_checks (value model) (clauses z))
    (cell_checks (value model) (first_cell z) (width z * height z) (hues z))))
