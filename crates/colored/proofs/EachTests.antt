-- The cells of families 7 to 10 in their order, for loops that test them.
use mathlib.Core.Path.{◌≡◌, refl}
use mathlib.Core.List.{List}
use Prim.Native.Nat.{ℕ, ◌+◌, ◌*◌, ◌≤◌, ◌<◌}
use native.Mathlib.Omega.{arith}
use lib.ListN.{length, get_or}
use Rattle.lists.specs.Each.{each}
use Rattle.sections.specs.Sections.{at_most_one}
use Rattle.refusals.specs.Verdict.{accepted}
use Rattle.refusals.specs.Told.{refusal}
use Rattle.refusals.specs.declared.Refusal.{Refusal}
use Rattle.truth.specs.Truth.{Assignment}
use Rattle.truth.specs.Tested.{tested, Countable}
use Rattle.truth.proofs.Testing.{Testing, testing_room, testing_stop, testing_next, testing_done}
use Rattle.puzzles.specs.Puzzle.{Puzzle}
use Rattle.puzzles.specs.Checks.{puzzle}
use Rattle.boards.specs.declared.board.Board.{Board}
use Rattle.numbering.specs.Variables.{hues}
use Rattle.cells.specs.declared.rule.Rule.{Rule}
use Rattle.cells.specs.Cells.{of_color, precomputed, of_cell}
use Rattle.cells.specs.Given.{Given}
use Rattle.cells.proofs.BoardCells.{cell_at, given_shows}
use Rattle.cells.proofs.ByColumn.{both, ask_of, color_is}
use Rattle.points.specs.Points.{column_once, of_mask, of_masks}

-- ---- 7 and 8: the colours of a cell

abbrev pub CellTesting : Assignment → Puzzle → Rule → ℕ → ℕ → ℕ → ℕ → ℕ → Type 0
CellTesting β z rule x y p q r = Testing β p (of_cell z rule x y) (hues z) (of_color z rule x y) q r

module _ {ws table : List ℕ} {board : Board} {palette : List ℕ} (G : Given ws table board palette) (rule : Rule) (x y : ℕ) {β : Assignment} {p q r : ℕ} (T : CellTesting β (puzzle ws) rule x y p q r) where
  module _ (l : r < length palette) where
    below : r < hues (puzzle ws)
    below = omega (arith, (given_shows G).hues_are)

    pub cell_room : Countable p (of_cell (puzzle ws) rule x y) → Countable q (both (puzzle ws) board (ask_of G rule x y r) x y)
    cell_room h = rw (color_is G rule x y r) (testing_room T below h)

    pub cell_stop : (why : Refusal) → refusal why ≡ tested β q (both (puzzle ws) board (ask_of G rule x y r) x y) → refusal why ≡ tested β p (of_cell (puzzle ws) rule x y)
    cell_stop why e = testing_stop T below why (rw (color_is G rule x y r) at e)

    pub cell_next : {n : ℕ} → accepted n ≡ tested β q (both (puzzle ws) board (ask_of G rule x y r) x y) → CellTesting β (puzzle ws) rule x y p n (r + 1)
    cell_next e = testing_next T below (rw (color_is G rule x y r) at e)

  pub cell_done : length palette ≤ r → accepted q ≡ tested β p (of_cell (puzzle ws) rule x y)
  cell_done h = testing_done T (omega (arith, (given_shows G).hues_are))

-- ---- 9

pub column_each : (board : Board) (k x : ℕ) → column_once board k x ≡ each board.height (λ y. at_most_one (cell_at board k x y) k)
unfolding column_once
column_each board k x = refl

-- ---- 10

pub mask_each : (palette : List ℕ) (mask v : ℕ) → of_mask palette mask v ≡ each (length palette) (λ r. precomputed mask (get_or palette r 0) (v + r))
unfolding of_mask
mask_each palette mask v = refl

pub masks_each : (palette masks : List ℕ) (v : ℕ) → of_masks palette masks v ≡ each (length masks) (λ i. of_mask palette (get_or masks i 0) (v + i * length palette))
unfolding of_masks
masks_each palette masks v = refl
