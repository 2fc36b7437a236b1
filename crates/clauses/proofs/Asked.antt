-- What the writers of sections ask, of an accepted puzzle and its counts.
use mathlib.Core.Path.{◌≡◌}
use Prim.Native.Nat.{ℕ, ◌<◌}
use native.Mathlib.Omega.{arith}
use lib.ListN.{length}
use Rattle.puzzles.specs.Puzzle.{Puzzle, width, height}
use Rattle.puzzles.specs.Good.{Good}
use Rattle.boards.specs.Reading.{Stands}
use Rattle.boards.specs.declared.board.Board.{Board}
use Rattle.placement.specs.Placement.{of_lines, of_columns, of_rows}
use Rattle.placement.specs.declared.rule.Rule.{Rule}
use Rattle.counts.proofs.Totals.{rule_small}

module _ (z : Puzzle) {b : Board} (S : Stands b z) (rule : Rule) where
  pub columns_are : of_lines z rule 0 b.width ≡ of_columns z rule
  columns_are = rw S.width_is

  pub rows_are : of_lines z rule b.width b.height ≡ of_rows z rule
  rows_are = rw (S.width_is, S.height_is)

-- their counts are small
module _ (z : Puzzle) (G : Good z) (rule : Rule) {n : ℕ} where
  pub columns_few : n ≡ length (of_columns z rule) → n < 2147483648
  columns_few e = omega (arith, e, rule_small z G rule 0 (width z) (omega arith) G.width_most)

  pub rows_few : n ≡ length (of_rows z rule) → n < 2147483648
  rows_few e = omega (arith, e, rule_small z G rule (width z) (height z) (omega arith) G.height_most)
