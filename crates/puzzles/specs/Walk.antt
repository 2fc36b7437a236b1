-- Document 01, "Refusal numbers": one walk over a puzzle's words from the left gives 1, 2, 3, 4, 5, 7, 8 at the first word that offends.
use Rattle.std.specs.Prelude.{not, List, ℕ, ◌*◌, eqb, ltb, length}
use Rattle.refusals.specs.Walk.{Walk, got, next, word, counted}
use Rattle.lines.specs.Clue.{Block}
use Rattle.lines.specs.Calls.{off_size, off_color}
use Rattle.puzzles.specs.Puzzle.{Puzzle}

unfoldable pub read_block : ℕ → List ℕ → Walk ℕ Block
read_block i ws =
    next (word 1 (λ n. eqb n 0) 4 i ws) (λ size j us.
    next (word 1 off_color 5 j us) (λ color k vs.
    got (record { size = size; color = color }) k vs))

abbrev pub read_mask : ℕ → List ℕ → Walk ℕ ℕ
read_mask = word 1 (λ m. eqb m 0) 8

abbrev pub read_clue : ℕ → List ℕ → Walk ℕ (List Block)
read_clue = counted (λ n. n) (word 1 (ltb 64) 3) read_block

abbrev pub read_lines : ℕ → List ℕ → Walk ℕ (List (List Block))
read_lines = counted (λ n. n) (word 1 off_size 2) read_clue

abbrev pub read_cells : ℕ → ℕ → List ℕ → Walk ℕ (List ℕ)
read_cells area = counted (λ n. n) (word 1 (λ n. not (eqb n area)) 7) read_mask

unfoldable pub read_puzzle : ℕ → List ℕ → Walk ℕ Puzzle
read_puzzle i ws =
    next (read_lines i ws) (λ columns j us.
    next (read_lines j us) (λ rows k vs.
    next (read_cells (length columns * length rows) k vs) (λ masks l xs.
    got (record { columns = columns; rows = rows; masks = masks }) l xs)))
