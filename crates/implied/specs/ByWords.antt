-- The clauses of probes, by the numbers of a board and by accepted probe words.
use Rattle.std.specs.Prelude.{cond, ◌||◌, List, [], ◌∷◌, ℕ, zero, suc, ◌+◌, ◌-◌, ◌*◌, ◌/◌, ◌≤◌, ◌<◌, ℤ, eqb, length, take, drop, get_or}
use Rattle.lists.specs.Each.{each, when}
use Rattle.literals.specs.Literals.{positive, negative}
use Rattle.sections.specs.Sections.{Clause}
use Rattle.boards.specs.declared.board.Board.{Board}
use Rattle.probes.specs.Probes.{Claim}
use Rattle.probes.specs.Words.{claim_at}
use Rattle.implied.specs.Implications.{premise_of, impact_of}

-- ---- of the words of one probe

-- the literal of the variable u in a premise of colour c: itself for blank, negated for a colour
unfoldable pub premise_literal : ℕ → ℕ → ℤ
premise_literal c u = cond (eqb c 0) (positive u) (negative u)

-- what a premise of colour c says of the variable u of colour d: its literal, where c is blank or d; else nothing
unfoldable pub premise_at : ℕ → ℕ → ℕ → Clause
premise_at c d u = when (eqb c 0 || eqb d c) (premise_literal c u ∷ [])

-- the cell is on the board
abbrev pub OnBoard : Board → Claim → Type 0
OnBoard b q = (q.x < b.width) × (q.y < b.height)

-- each claim of three words, and each of a probe's words
abbrev pub AllOnBoard : Board → List ℕ → Type 0
AllOnBoard b ws = (j : ℕ) → j < length ws / 3 → OnBoard b (claim_at ws (3 * j))

pub record ProbeOnBoard (b : Board) (ws : List ℕ) : Type 0 where
  pub long : 4 ≤ length ws
  pub premise : OnBoard b (claim_at ws 0)
  pub impacts : AllOnBoard b (drop 4 ws)

-- its first variable, on a board of k colours
abbrev pub first_of : Board → ℕ → Claim → ℕ
first_of b k q = b.first + (q.y * b.width + q.x) * k

abbrev pub premise_in : Board → List ℕ → Claim → Clause
premise_in b cs q = premise_of cs (first_of b (length cs) q) q.color

abbrev pub impact_in : Board → List ℕ → Clause → Claim → List Clause
impact_in b cs premise q = impact_of cs premise (first_of b (length cs) q) q.color

-- behind a premise, the impacts of three words each
unfoldable pub of_impacts : Board → List ℕ → Clause → List ℕ → List Clause
of_impacts b cs premise ws = each (length ws / 3) (λ j. impact_in b cs premise (claim_at ws (3 * j)))

unfoldable pub of_probe : Board → List ℕ → List ℕ → List Clause
of_probe b cs ws = of_impacts b cs (premise_in b cs (claim_at ws 0)) (drop 4 ws)

-- ---- of the whole list

-- where probe k begins, and its words
unfoldable pub place_at : List ℕ → ℕ → ℕ
place_at us zero = 1
place_at us (suc k) = place_at us k + 4 + 3 * get_or us (place_at us k + 3) 0

abbrev pub words_at : List ℕ → ℕ → List ℕ
words_at us k = take (place_at us (suc k) - place_at us k) (drop (place_at us k) us)

unfoldable pub of_probes : Board → List ℕ → List ℕ → List Clause
of_probes b cs us = each (get_or us 0 0) (λ k. of_probe b cs (words_at us k))
