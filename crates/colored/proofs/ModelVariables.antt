-- A model with a value for each variable has one for each position that covers a cell, and for each colour of a cell.
use mathlib.Core.Path.{◌≡◌}
use mathlib.Core.List.{List}
use Prim.Native.Nat.{ℕ, ◌+◌, ◌*◌, ◌≤◌, ◌<◌}
use native.Mathlib.Omega.{arith}
use native.Mathlib.Nat.{mul_comm}
use lib.ListN.{length}
use Rattle.lists.proofs.Parts.{part_within, place_within}
use Rattle.lines.specs.Clue.{Run, gap}
use Rattle.lines.proofs.Packing.{packed_length}
use Rattle.puzzles.specs.Puzzle.{Puzzle, lines, width, height, clue_at}
use Rattle.boards.specs.declared.board.Board.{Board}
use Rattle.numbering.specs.Variables.{Line, line_at, hues, cell_first, variables}
use Rattle.numbering.specs.Names.{position}
use Rattle.numbering.proofs.Bounds.{first_some}
use Rattle.numbering.proofs.OneToOne.{numbered_within}
use Rattle.cells.specs.Cells.{covering}
use Rattle.cells.specs.Given.{Shows}
use Rattle.cells.proofs.BoardCells.{cell_at, cell_is}
use Rattle.cells.proofs.CoveringPositions.{covering_every}
use Rattle.cells.proofs.LinePositions.{BlockRead}
use Rattle.placed.specs.Known.{Known}
use Rattle.colored.specs.Models.{Of, AllOf, LineOf}

module _ (model : List ℕ) (z : Puzzle) (all : length model ≡ variables z) where
  pub line_within : (l : ℕ) → l < lines z → LineOf model (line_at z l)
  unfolding line_at
  line_within l h b i k m = rw all (numbered_within z (position l b i) (h, omega (arith, packed_length gap (clue_at z l)), m))

  pub covering_within : (l c t : ℕ) → l < lines z → AllOf model (covering (line_at z l) c t)
  covering_within l c t h = covering_every (Of model) (line_at z l) c t (line_within l h)

  module _ {board : Board} {k : ℕ} (S : Shows board k z) (x y : ℕ) (h : x < board.width) (l : y < board.height) where
    pub cell_within : (0 < cell_at board k x y) × (cell_at board k x y + k ≤ length model + 1)
    unfolding cell_first variables
    cell_within =
        let c = y * width z + x in
        let i : c < width z * height z = omega (arith, place_within (height z) (width z) y x (omega (arith, S.stands.height_is)) (omega (arith, S.stands.width_is)), mul_comm (height z) (width z)) in
        rw (all, cell_is S x y, S.hues_are) (omega (arith, first_some z (lines z)), omega (arith, first_some z (lines z), part_within (width z * height z) (hues z) c i))

    pub color_within : (r : ℕ) → r < k → Of model (cell_at board k x y + r)
    color_within r m = (omega (arith, cell_within), omega (arith, cell_within))

-- the positions of a block, as its numbers are read
pub block_variables : (model : List ℕ) {L : Line} {b v p : ℕ} {r : Run} → BlockRead L b v p r → Known (length model) L → 0 < v → (i : ℕ) → i < p → Of model (v + i)
block_variables model {L} {b} B K some i h = (omega arith, omega (arith, K b B.below, B.first_is, B.positions_is))

pub masks_within : (model : List ℕ) {z : Puzzle} {board : Board} {k : ℕ} → Shows board k z → length model ≡ variables z
    → (0 < board.first) × (board.first + length z.masks * k ≤ length model + 1)
unfolding variables
masks_within model {z} S all = rw (all, S.stands.first_is, S.good.area, S.hues_are) (first_some z (lines z), omega (arith, first_some z (lines z)))
