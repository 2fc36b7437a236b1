use mathlib.Core.Path.{◌≡◌}
use mathlib.Core.List.{foldl}
use lib.ListN.{drop}
use Rattle.bits.specs.Bits.{with_bit}
use Rattle.grids.specs.Mask.{grid_colors}
use Rattle.grids.proofs.masks.cell_colors.Given as goal

abbrev pub invariant-loop-color : goal.invariant-loop-color
invariant-loop-color l = grid_colors l.grid ≡ foldl with_bit l.mask (drop l.color-index l.grid)
