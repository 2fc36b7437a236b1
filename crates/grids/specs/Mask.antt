-- The mask of every cell, as it is found in one walk over the cells.
use Rattle.std.specs.Prelude.{cond, ℕ, ◌≤◌, ◌<◌, length, get_or, eqb}
use mathlib.Core.List.{List, foldl}
use Rattle.bits.specs.Bits.{with_bit}

-- bit 0 and the colours of the cells
abbrev pub grid_colors : List ℕ → ℕ
grid_colors grid = foldl with_bit 1 grid

-- and where no cell has a colour, bits 0 and 1
unfoldable pub cells_mask : List ℕ → ℕ
cells_mask grid = cond (eqb (grid_colors grid) 1) 3 (grid_colors grid)

-- every cell is blank or has a colour
pub record Colored (grid : List ℕ) : Type 0 where
  pub low : (i : ℕ) → i < length grid → get_or grid i 0 ≤ 31
