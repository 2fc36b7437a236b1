-- The cells of a grid, by row and by column.
use mathlib.Core.Path.{◌≡◌, sym, ap, ◌∙◌}
use mathlib.Core.List.{List}
use Prim.Native.Nat.{ℕ, ◌+◌, ◌*◌, ◌/◌, ◌%◌, ◌≤◌, ◌<◌}
use native.Mathlib.Omega.{arith}
use native.Mathlib.Nat.{mul_comm, mul-zero, div-add-mod', mod-lt, div-lt_iff_lt-mul}
use native.Mathlib.Decide.{dec_lt}
use lib.ListN.{length, get_or}
use lib.Seq.{ext_get_or}
use Rattle.lists.specs.Wrote.{Wrote}
use Rattle.lists.proofs.Eaches.{each_length, length_tab, get_or_tab}
use Rattle.lists.proofs.Parts.{place_within, get_or_each}
use Rattle.lists.proofs.Emitting.{Emitting, emit_first, emit_room, emit_done}
use Rattle.puzzles.proofs.Places.{area_most}
use Rattle.grids.specs.Sized.{Sized}
use Rattle.grids.specs.Grid.{row, column, transposed}

-- the place of cell x of row y
pub cell_within : (w h x y : ℕ) → x < w → y < h → y * w + x < w * h
cell_within w h x y i j = omega (arith, place_within h w y x j i, mul_comm w h)

module _ {w h : ℕ} {grid : List ℕ} (S : Sized w h grid) where
  pub sized_most : length grid ≤ 4096
  sized_most = omega (arith, S.cells, area_most w h S.width_most S.height_most)

  pub place_in : {x y : ℕ} → x < w → y < h → y * w + x < length grid
  place_in {x} {y} i j = omega (arith, S.cells, cell_within w h x y i j)

  pub place_most : {x y : ℕ} → x < w → y < h → y * w + x < 4096
  place_most {x} {y} i j = omega (arith, place_in i j, sized_most)

module _ (w h : ℕ) (grid : List ℕ) where
  pub row_length : (y : ℕ) → length (row w grid y) ≡ w
  unfolding row
  row_length y = length_tab w _

  pub row_cell_lem : (x y : ℕ) → x < w → get_or (row w grid y) x 0 ≡ get_or grid (y * w + x) 0
  unfolding row
  row_cell_lem x y i = get_or_tab w _ 0 x i

  pub column_length : (x : ℕ) → length (column w h grid x) ≡ h
  unfolding column
  column_length x = length_tab h _

  pub column_cell_lem : (x y : ℕ) → y < h → get_or (column w h grid x) y 0 ≡ get_or grid (y * w + x) 0
  unfolding column
  column_cell_lem x y j = get_or_tab h _ 0 y j

  -- ---- the columns as rows

  pub transposed_length : length (transposed w h grid) ≡ w * h
  unfolding transposed
  transposed_length = each_length w h (column w h grid) column_length

  pub transposed_cell : (x y : ℕ) → x < w → y < h → get_or (transposed w h grid) (x * h + y) 0 ≡ get_or grid (y * w + x) 0
  unfolding transposed
  transposed_cell x y i j = get_or_each w h (column w h grid) column_length 0 x y i j ∙ column_cell_lem x y j

pub transposed_size : {w h : ℕ} {grid : List ℕ} → Sized w h grid → length grid ≡ length (transposed w h grid)
transposed_size {w} {h} {grid} S = S.cells ∙ sym (transposed_length w h grid)

-- ---- the loop that writes the columns

module _ {w h : ℕ} {grid : List ℕ} (S : Sized w h grid) where
  pub columns_first : (out : List ℕ) → length grid ≤ length out → Emitting w (column w h grid) out 0 out 0 0
  unfolding transposed
  columns_first out r = emit_first w _ out 0 (omega (arith, transposed_size S))

  module _ {out₀ out : List ℕ} {at x : ℕ} (E : Emitting w (column w h grid) out₀ 0 out at x) where
    pub columns_room : x < w → at + h ≤ length out
    columns_room l = omega (arith, emit_room E l, column_length w h grid x)

    pub columns_done : w ≤ x → Wrote (transposed w h grid) out₀ 0 out at
    unfolding transposed
    columns_done l = emit_done E l

-- transposing twice gives the grid back
pub transposed_twice : (w h : ℕ) (grid : List ℕ) → length grid ≡ w * h → transposed h w (transposed w h grid) ≡ grid
transposed_twice w h grid e = ext_get_or 0 _ grid (size ∙ mul_comm h w ∙ sym e) (λ t i. same t (omega (arith, size)) (dec_lt 0 w))
  where
    size : length (transposed h w (transposed w h grid)) ≡ h * w
    size = transposed_length h w (transposed w h grid)

    same : (t : ℕ) → t < h * w → Dec (0 < w) → get_or (transposed h w (transposed w h grid)) t 0 ≡ get_or grid t 0
    same t i (no z) = let o : w ≡ 0 = omega arith in absurd (omega (arith, mul-zero h, ap (λ (n : ℕ). h * n) o))
    same t i (yes p) =
        let x : t % w < w = mod-lt t p in
        let y : t / w < h = (div-lt_iff_lt-mul p).1 i in
        let at : t ≡ t / w * w + t % w = sym (div-add-mod' t w) in
        ap (λ (n : ℕ). get_or (transposed h w (transposed w h grid)) n 0) at
        ∙ transposed_cell h w (transposed w h grid) (t / w) (t % w) y x
        ∙ transposed_cell w h grid (t % w) (t / w) x y
        ∙ ap (λ (n : ℕ). get_or grid n 0) (sym at)
