-- The variables of a board's cells.
use mathlib.Core.Path.{◌≡◌, ap}
use mathlib.Core.List.{List}
use Prim.Native.Nat.{ℕ, ◌+◌, ◌*◌, ◌≤◌, ◌<◌}
use native.Mathlib.Omega.{arith}
use native.Mathlib.Nat.{mul_comm}
use lib.ListN.{length}
use Rattle.lists.proofs.Parts.{place_within}
use Rattle.puzzles.specs.Puzzle.{Puzzle, width, height}
use Rattle.puzzles.specs.Checks.{puzzle}
use Rattle.boards.specs.declared.board.Board.{Board}
use Rattle.numbering.specs.Variables.{cell_first}
use Rattle.numbering.proofs.Bounds.{cell_least, cell_most, cells_most}
use Rattle.cells.specs.Given.{Shows, Given}
use Rattle.cells.specs.declared.given.Given as G
pub use Rattle.cells.specs.Held.{cell_at}

-- what a `Given` holds
pub given_holds : (g : G.Given) → Given g.reading.lines.words.now g.reading.lines.table.now g.reading.board g.palette.now
given_holds g = record { ready = g.reading.lines.ready; stands = g.reading.stands; palette_is = g.palette_is }

pub given_shows : {ws table : List ℕ} {board : Board} {palette : List ℕ} → Given ws table board palette → Shows board (length palette) (puzzle ws)
given_shows G = record { good = G.ready.good; stands = G.stands; hues_are = ap length G.palette_is }

module _ {board : Board} {k : ℕ} {z : Puzzle} (S : Shows board k z) (x y : ℕ) where
  pub cell_is : cell_at board k x y ≡ cell_first z x y
  unfolding cell_first
  cell_is = rw (S.stands.first_is, S.stands.width_is, S.hues_are)

  module _ (h : x < board.width) (l : y < board.height) where
    in_column : x < width z
    in_column = omega (arith, S.stands.width_is)

    in_row : y < height z
    in_row = omega (arith, S.stands.height_is)

    -- the place of the cell, row by row
    pub cell_place : y * board.width + x < 4096
    cell_place = rw S.stands.width_is (omega (arith, place_within (height z) (width z) y x in_row in_column, mul_comm (height z) (width z), cells_most z S.good))

    pub cell_variables : (0 < cell_at board k x y) × (cell_at board k x y + k ≤ 262145)
    cell_variables = rw (cell_is, S.hues_are) (cell_least z S.good x y in_column in_row, cell_most z S.good x y in_column in_row)
