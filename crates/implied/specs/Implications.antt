-- Document 01: the clauses of probes, one section.
use Rattle.std.specs.Prelude.{cond, ℕ, ◌+◌, ℤ, eqb, length, get_or}
use mathlib.Core.List.{List, [], ◌∷◌, ◌++◌, map, flat_map}
use Rattle.lists.specs.Each.{each, when}
use Rattle.literals.specs.Literals.{positive, negative}
use Rattle.sections.specs.Sections.{Clause, at_least_one}
use Rattle.puzzles.specs.Puzzle.{Puzzle}
use Rattle.puzzles.specs.Checks.{colors}
use Rattle.numbering.specs.Variables.{palette, cell_first}
use Rattle.probes.specs.Probes.{Claim, Probe}

-- ---- of a cell whose variables begin at v, one for each colour of cs

-- that the cell does not have colour c: that colour's variable negated; that it is not blank: all its variables
unfoldable pub premise_of : List ℕ → ℕ → ℕ → Clause
premise_of cs v c =
    cond (eqb c 0) (at_least_one v (length cs))
    (each (length cs) (λ r. when (eqb (get_or cs r 0) c) (negative (v + r) ∷ [])))

-- what colour c of a cell says of its variable u of colour d: blank, u negated; that colour, u; any other colour nothing
unfoldable pub implied : ℕ → ℕ → ℕ → List ℤ
implied c d u = cond (eqb c 0) (negative u ∷ []) (when (eqb d c) (positive u ∷ []))

-- behind a premise, that the cell has colour c; a colour that is not among cs gives no clause
unfoldable pub impact_of : List ℕ → Clause → ℕ → ℕ → List Clause
impact_of cs premise v c = each (length cs) (λ r. map (λ l. premise ++ (l ∷ [])) (implied c (get_or cs r 0) (v + r)))

-- ---- of a puzzle

unfoldable pub implication : Puzzle → Claim → Claim → List Clause
implication z p q =
    impact_of (palette (colors z)) (premise_of (palette (colors z)) (cell_first z p.x p.y) p.color) (cell_first z q.x q.y) q.color

-- per probe, per impact
unfoldable pub implications : Puzzle → List Probe → List Clause
implications z ps = flat_map (λ p. flat_map (implication z p.premise) p.impacts) ps
