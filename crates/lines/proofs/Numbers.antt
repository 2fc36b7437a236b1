-- Numbers that a clue and a line are never refused with.
use mathlib.Core.Path.{◌≡◌}
use mathlib.Core.List.{List, [], ◌∷◌}
use Prim.Native.Nat.{ℕ, ◌+◌, ◌/◌, ◌%◌, ◌<◌}
use native.Mathlib.Omega.{arith}
use lib.Dec.{eqb, ltb}
use lib.ListN.{length}
use Rattle.refusals.specs.Stops.{Never}
use Rattle.refusals.proofs.Never.{accepted_never, refuse_never, then_never, first_never}
use Rattle.lines.specs.Clue.{blocks, gap, min_space}
use Rattle.lines.specs.Calls.{off_size, off_color, block_checks, clue_checks, byte_checks, line_checks}

module _ (m : ℕ) (h : 6 < m) where
  block_never : (i : ℕ) (ws : List ℕ) → Never m (block_checks i ws)
  unfolding block_checks
  block_never i [] = accepted_never m
  block_never i (size ∷ []) = accepted_never m
  block_never i (size ∷ color ∷ ws) =
      refuse_never m (refuse_never m (block_never (i + 2) ws) (off_color color) (i + 1) (λ e. omega arith)) (eqb size 0) i (λ e. omega arith)

  pub clue_never : (n : ℕ) (clue : List ℕ) → Never m (clue_checks n clue)
  unfolding clue_checks
  clue_never n clue =
      refuse_never m
      (refuse_never m
      (refuse_never m
      (then_never m (refuse_never m (accepted_never m) (ltb n (min_space gap (blocks clue))) 0 (λ e. omega arith)) (block_checks 0 clue) (block_never 0 clue))
      (ltb 64 (length clue / 2)) 0 (λ e. omega arith))
      (eqb (length clue % 2) 1) (length clue) (λ e. omega arith))
      (off_size n) 0 (λ e. omega arith)

pub bytes_never : (m : ℕ) → (m ≡ 18 → ⊥) → (line : List ℕ) → Never m (byte_checks line)
bytes_never m h line = first_never m (ltb 31) h 0 line

pub line_never : (m : ℕ) → (m ≡ 2 → ⊥) → (m ≡ 18 → ⊥) → (line : List ℕ) → Never m (line_checks line)
unfolding line_checks
line_never m g h line = refuse_never m (bytes_never m h line) (off_size (length line)) 0 g
