-- How many variables an accepted puzzle has at most: 1,056 for each of 128 lines and 31 for each of 4,096 cells, 262,144 in all.
use mathlib.Core.Path.{refl}
use Prim.Native.Nat.{ℕ, zero, suc, ◌+◌, ◌-◌, ◌*◌, ◌≤◌, ◌<◌}
use native.Mathlib.Omega.{arith}
use native.Mathlib.Nat.{mul_comm, mul-add, mul-le-mul_right, mul-le-mul_left}
use native.Mathlib.Decide.{dec_le, dec_lt}
use lib.ListN.{length}
use borrow.Author.Tests.{lt-ltb, le-ltb}
use Rattle.lists.proofs.Parts.{part_within, place_within}
use Rattle.lines.specs.Clue.{gap}
use Rattle.lines.proofs.Packing.{base_gap, packed_length, blocks_within}
use Rattle.lines.proofs.Moving.{positions_space}
use Rattle.puzzles.specs.Puzzle.{Puzzle, width, height, lines, clue_at, length_at}
use Rattle.puzzles.specs.Checks.{colors}
use Rattle.puzzles.specs.Good.{Good}
use Rattle.puzzles.specs.Firsts.{first_at, positions_at}
use Rattle.numbering.specs.Variables.{line_at, hues, cell_first, variables}
use Rattle.numbering.specs.Tables.{Sound}
use Rattle.numbering.proofs.Palettes.{palette_most}

-- two numbers whose sum is 65 at most
product_most : (n p : ℕ) → n + p ≤ 65 → n * p ≤ 1056
product_most n p h = elim (dec_le n 32) [
  | yes l ↦ low n p l h
  | no l ↦ omega (arith, low p n (omega arith) (omega arith), mul_comm n p)
]
  where
    low : (n p : ℕ) → n ≤ 32 → n + p ≤ 65 → n * p ≤ 1056
    low n p l h =
        let k = 32 - n in
        let a : p ≤ 33 + k = omega arith in
        omega (arith, mul-le-mul_left n a, mul-add n 33 k, mul_comm n 33, mul-le-mul_right k l)

pub hues_most : (z : Puzzle) → hues z ≤ 31
hues_most z = palette_most (colors z)

pub first_some : (z : Puzzle) (l : ℕ) → 0 < first_at z l
unfolding first_at
first_some z zero = omega arith
first_some z (suc l) = omega (arith, first_some z l)

module _ (z : Puzzle) (G : Good z) where
  length_most : (l : ℕ) → length_at z l ≤ 64
  unfolding length_at
  length_most l = elim (dec_lt l (width z)) [
    | yes h ↦ rw (lt-ltb l (width z) h) G.height_most
    | no h ↦ rw (le-ltb l (width z) (omega arith)) G.width_most
  ]

  line_most : (l : ℕ) → l < lines z → length (clue_at z l) * positions_at z l ≤ 1056
  line_most l h =
      product_most (length (clue_at z l)) (positions_at z l)
      (omega (arith, blocks_within base_gap (G.proper l h), positions_space gap (length_at z l) (clue_at z l) (G.fits l h), length_most l))

  first_bound : (l : ℕ) → l ≤ lines z → first_at z l ≤ 1 + 1056 * l
  unfolding first_at
  first_bound zero h = omega arith
  first_bound (suc l) h = omega (arith, first_bound l (omega arith), line_most l (omega arith))

  -- each of its lines is sound
  pub line_sound : (l : ℕ) → l < lines z → Sound (line_at z l)
  unfolding line_at
  line_sound l h = record {
    cells = length_at z l;
    clue = clue_at z l;
    short = length_most l;
    proper = G.proper l h;
    fits = G.fits l h;
    runs_are = refl;
    positions_are = refl;
    least = first_some z l;
    most = rw (packed_length gap (clue_at z l)) (omega (arith, first_bound l (omega arith), line_most l h, G.width_most, G.height_most));
  }

  pub cells_most : width z * height z ≤ 4096
  cells_most = omega (arith, mul-le-mul_right (height z) G.width_most, G.height_most)

  -- the first variable of its cells
  pub cells_first : (first_at z (lines z) ≤ 135169) × (0 < first_at z (lines z))
  cells_first = (omega (arith, first_bound (lines z) (omega arith), G.width_most, G.height_most), first_some z (lines z))

  -- the variables of its cells
  module _ (x y : ℕ) (h : x < width z) (l : y < height z) where
    pub cell_least : 0 < cell_first z x y
    unfolding cell_first
    cell_least = omega (arith, cells_first)

    pub cell_most : cell_first z x y + hues z ≤ 262145
    unfolding cell_first
    cell_most =
        let c = y * width z + x in
        let i : c < width z * height z = omega (arith, place_within (height z) (width z) y x l h, mul_comm (height z) (width z)) in
        omega (arith, cells_first, part_within (width z * height z) (hues z) c i, mul-le-mul_right (hues z) cells_most, hues_most z)

  -- document 01's bound
  pub variables_most : variables z ≤ 262144
  unfolding variables
  variables_most = omega (arith, cells_first, mul-le-mul_right (hues z) cells_most, hues_most z)
