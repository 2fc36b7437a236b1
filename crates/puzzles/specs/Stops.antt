-- Document 01, "Refusal numbers": where the walk over puzzle words stops.
use Rattle.std.specs.Prelude.{◌≡◌, List, ℕ, ◌+◌, length}
use Rattle.refusals.specs.Verdict.{refused}
use Rattle.refusals.specs.Walk.{walked}
use Rattle.refusals.specs.Stops.{StopsAt}
use Rattle.puzzles.specs.Walk.{read_puzzle}

-- 1 is at the number of words, and every other of its refusals, and 11, at a word
abbrev pub PuzzlePlaces : Type 0
PuzzlePlaces =
    (i : ℕ) (ws : List ℕ) (k p : ℕ) → refused k p ≡ walked 11 (read_puzzle i ws) → StopsAt 1 (λ k. k ≡ 1 → ⊥) (i + length ws) k p
