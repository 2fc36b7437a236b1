-- Where the walk over puzzle words stops, and the numbers that no puzzle is refused with.
use mathlib.Core.Path.{◌≡◌}
use mathlib.Core.Bool.{not}
use mathlib.Core.List.{List}
use Prim.Native.Nat.{ℕ, ◌*◌, ◌<◌}
use native.Mathlib.Omega.{arith}
use lib.Dec.{eqb, ltb}
use lib.ListN.{length}
use Rattle.refusals.specs.Walk.{walked}
use Rattle.refusals.specs.Stops.{Stopping, Never}
use Rattle.refusals.proofs.Stopping.{word_stopping, got_stopping, then_stopping, counted_stopping, walked_stops}
use Rattle.refusals.proofs.Never.{then_never, first_never, walked_never}
use Rattle.lines.specs.Clue.{gap, min_space}
use Rattle.lines.specs.Calls.{off_size, off_color}
use Rattle.puzzles.specs.Puzzle.{Puzzle, width, height}
use Rattle.puzzles.specs.Colors.{known, off_solved}
use Rattle.puzzles.specs.Walk.{read_block, read_clue, read_lines, read_cells, read_puzzle}
use Rattle.puzzles.specs.Checks.{colors, space_checks, column_checks, spaces, meaning_checks, puzzle_of, checks_of}
use Rattle.puzzles.specs.Stops.{PuzzlePlaces}

module _ (O : ℕ → Type 0) (o : (k : ℕ) → 1 < k → k < 12 → O k) where
  block_stopping : Stopping 1 O read_block
  unfolding read_block
  block_stopping =
      then_stopping 1 O (word_stopping 1 O (λ n. eqb n 0) (o 4 (omega arith) (omega arith)))
      (λ size. then_stopping 1 O (word_stopping 1 O off_color (o 5 (omega arith) (omega arith))) (λ color. got_stopping 1 O (record { size = size; color = color })))

  lines_stopping : Stopping 1 O read_lines
  lines_stopping =
      let clue : Stopping 1 O read_clue = counted_stopping 1 O block_stopping (λ n. n) (word_stopping 1 O (ltb 64) (o 3 (omega arith) (omega arith))) in
      counted_stopping 1 O clue (λ n. n) (word_stopping 1 O off_size (o 2 (omega arith) (omega arith)))

  cells_stopping : (area : ℕ) → Stopping 1 O (read_cells area)
  cells_stopping area =
      counted_stopping 1 O (word_stopping 1 O (λ m. eqb m 0) (o 8 (omega arith) (omega arith))) (λ n. n)
      (word_stopping 1 O (λ n. not (eqb n area)) (o 7 (omega arith) (omega arith)))

  puzzle_stopping : Stopping 1 O read_puzzle
  unfolding read_puzzle
  puzzle_stopping =
      then_stopping 1 O lines_stopping
      (λ columns. then_stopping 1 O lines_stopping
      (λ rows. then_stopping 1 O (cells_stopping (length columns * length rows))
      (λ masks. got_stopping 1 O (record { columns = columns; rows = rows; masks = masks }))))

pub puzzle_places : PuzzlePlaces
puzzle_places i ws k p e =
    walked_stops 1 (λ k. k ≡ 1 → ⊥) (puzzle_stopping (λ k. k ≡ 1 → ⊥) (λ k l m e. omega arith)) {k = 11} (λ e. omega arith) i ws e

-- a number over 11 is of no puzzle
module _ (m : ℕ) (h : 11 < m) where
  meaning_never : (z : Puzzle) → Never m (meaning_checks z)
  unfolding meaning_checks spaces
  meaning_never z =
      then_never m
      (then_never m (first_never m (off_solved (colors z)) (λ e. omega arith) 0 z.masks) (column_checks (colors z) z.columns) (first_never m (λ bs. not (known (colors z) bs)) (λ e. omega arith) 0 z.columns))
      (spaces z)
      (then_never m (first_never m (λ bs. ltb (width z) (min_space gap bs)) (λ e. omega arith) (width z) z.rows) (space_checks (height z) 0 z.columns) (first_never m (λ bs. ltb (height z) (min_space gap bs)) (λ e. omega arith) 0 z.columns))

  pub puzzle_never : (i : ℕ) (ws : List ℕ) → Never m (checks_of (read_puzzle i ws))
  puzzle_never i ws =
      then_never m (meaning_never (puzzle_of (read_puzzle i ws))) (walked 11 (read_puzzle i ws))
      (walked_never m (λ e. omega arith) (puzzle_stopping (λ k. m ≡ k → ⊥) (λ k l n e. omega arith)) {k = 11} (λ e. omega arith) i ws)
