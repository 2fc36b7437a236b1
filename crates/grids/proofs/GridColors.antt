-- The colours of a grid: those of its cells are those of its rows' blocks, so that one walk over the cells finds the mask.
use mathlib.Core.Path.{◌≡◌, sym, ap, subst, ◌∙◌}
use mathlib.Core.Bool.{true}
use mathlib.Core.List.{List, [], foldl}
use mathlib.Core.Logic.{⊎_elim}
use Prim.Native.Nat.{ℕ, ◌+◌, ◌*◌, ◌/◌, ◌%◌, ◌<◌}
use native.Mathlib.Omega.{arith}
use native.Mathlib.Nat.{mul_comm, div-add-mod', mod-lt, div-lt_iff_lt-mul}
use native.Mathlib.Decide.{ℕ_discrete, dec_lt}
use lib.ListN.{length, get_or}
use borrow.Author.Tests.{eqb-true}
use Rattle.lists.proofs.Eaches.{length_tab, get_or_tab}
use Rattle.bits.specs.Bits.{bit, with_bit}
use Rattle.bits.proofs.SetBits.{bit_power, bit_some, with_same, with_zero, with_keeps, with_cases, with_within}
use Rattle.bits.proofs.LowestFirst.{same_bits}
use Rattle.bits.proofs.Collecting.{Collects, Some, collects_bit, collects_all}
use Rattle.lines.specs.Line.{runs}
use Rattle.lines.proofs.Reading.{runs_proper}
use Rattle.lines.proofs.Coloring.{Named, Seen, named_seen, seen_named}
use Rattle.puzzles.specs.Colors.{with_lines, color_set}
use Rattle.puzzles.proofs.ColorSets.{of_blocks, lines_collect, set_none, set_some}
use Rattle.grids.specs.Grid.{row, column, row_clues}
use Rattle.grids.specs.Sized.{Sized}
use Rattle.grids.specs.Mask.{grid_colors, cells_mask}
use Rattle.grids.proofs.Cells.{row_length, row_cell_lem, column_length, column_cell_lem, place_in}
use Rattle.grids.proofs.CellMasks.{mask_blank, mask_colors}

-- ---- the colours of cells

cells_collect : Collects (foldl with_bit) (Some 0 (λ a c. a ≡ c))
cells_collect = collects_all (collects_bit (λ c. c)) 0

only_blank : (k : ℕ) → bit 1 k ≡ true → k ≡ 0
only_blank k e = eqb-true k 0 (sym (bit_power 0 k) ∙ e)

-- ---- a cell of a line is a cell of the grid

module _ {w h : ℕ} {grid : List ℕ} (S : Sized w h grid) {c : ℕ} where
  pub row_seen : {y : ℕ} → y < h → Seen (row w grid y) c → Seen grid c
  row_seen {y} j C =
      let i : C.cell < w = omega (arith, C.within, row_length w h grid y) in
      record { cell = y * w + C.cell; within = place_in S i j; color_is = sym (row_cell_lem w h grid C.cell y i) ∙ C.color_is }

  pub column_seen : {x : ℕ} → x < w → Seen (column w h grid x) c → Seen grid c
  column_seen {x} i C =
      let j : C.cell < h = omega (arith, C.within, column_length w h grid x) in
      record { cell = C.cell * w + x; within = place_in S i j; color_is = sym (column_cell_lem w h grid x C.cell j) ∙ C.color_is }

  -- and a cell of the grid lies in a row
  seen_row : Seen grid c → (y : ℕ) × (y < h) × Seen (row w grid y) c
  seen_row C =
      let t = C.cell in
      let y = t / w in
      let i : t % w < w = mod-lt t S.width_some in (
        y,
        (div-lt_iff_lt-mul S.width_some).1 (omega (arith, C.within, S.cells, mul_comm w h)),
        record {
          cell = t % w;
          within = omega (arith, row_length w h grid y);
          color_is = row_cell_lem w h grid (t % w) y i ∙ ap (λ (n : ℕ). get_or grid n 0) (div-add-mod' t w) ∙ C.color_is;
        },
      )

-- ---- the rows' clues

module _ (w h : ℕ) (grid : List ℕ) where
  pub rows_length : length (row_clues w h grid) ≡ h
  unfolding row_clues
  rows_length = length_tab h _

  pub rows_at : (y : ℕ) → y < h → get_or (row_clues w h grid) y [] ≡ runs (row w grid y)
  unfolding row_clues
  rows_at y j = get_or_tab h _ [] y j

module _ {w h : ℕ} {grid : List ℕ} (S : Sized w h grid) (c : ℕ) where
  -- a colour of a row block is one of a cell
  row_bit : bit (with_lines 0 (row_clues w h grid)) c ≡ true → (0 < c) × Seen grid c
  row_bit e = ⊎_elim
      (λ z. absurd (omega (arith, bit_some 0 c z)))
      (λ s.
      let y = s.at in
      let j : y < h = omega (arith, s.below, rows_length w h grid) in
      let b : of_blocks (runs (row w grid y)) c = subst (λ bs. of_blocks bs c) (rows_at w h grid y j) s.holds in
      let N : Named (runs (row w grid y)) c = record { block_no = b.at; within = b.below; color_is = b.holds } in (
        omega (arith, (runs_proper (row w grid y)).colors b.at b.below, b.holds),
        row_seen S j (named_seen (row w grid y) N),
      ))
      (lines_collect.cases 0 (row_clues w h grid) c e)

  -- and a colour of a cell is one of a row block
  bit_row : 0 < c → c < 32 → Seen grid c → bit (with_lines 0 (row_clues w h grid)) c ≡ true
  bit_row p l C =
      let r = seen_row S C in
      let y = r.0 in
      let N = seen_named (row w grid y) p r.2 in
      lines_collect.puts 0 (row_clues w h grid) c l (record {
        at = y;
        below = omega (arith, rows_length w h grid, r.1);
        holds = rw (rows_at w h grid y r.1) (record { at = N.block_no; below = N.within; holds = N.color_is });
      })

  -- a cell's colour is in the colour set
  pub seen_known : 0 < c → c < 32 → Seen grid c → bit (color_set (row_clues w h grid)) c ≡ true
  seen_known p l C =
      let e = bit_row p l C in
      rw (set_some (row_clues w h grid) (λ z. omega (arith, bit_some (with_lines 0 (row_clues w h grid)) c e))) e

  cell_bit : c < 32 → Seen grid c → bit (grid_colors grid) c ≡ true
  cell_bit l C = cells_collect.puts 1 grid c l (record { at = C.cell; below = C.within; holds = C.color_is })

  bit_cell : 0 < c → bit (grid_colors grid) c ≡ true → Seen grid c
  bit_cell p e = ⊎_elim
      (λ z. absurd (omega (arith, only_blank c z)))
      (λ s. record { cell = s.at; within = s.below; color_is = s.holds })
      (cells_collect.cases 1 grid c e)

-- ---- the mask that the walk over the cells finds

module _ {w h : ℕ} {grid : List ℕ} (S : Sized w h grid) where
  blank_bit : bit (grid_colors grid) 0 ≡ true
  blank_bit = cells_collect.keeps 1 grid 0 (bit_power 0 0)

  colors_are : grid_colors grid ≡ with_bit (with_lines 0 (row_clues w h grid)) 0
  colors_are = same_bits (grid_colors grid) (with_bit W 0) (cells_collect.within 1 grid (omega arith)) (with_within W 0 (lines_collect.within 0 (row_clues w h grid) (omega arith)))
      (λ k l e. elim (dec_lt 0 k) [
        | yes p ↦ with_keeps W 0 k (bit_row S k p l (bit_cell S k p e))
        | no p ↦ let z : k ≡ 0 = omega arith in rw z (with_same W 0 (omega arith))
      ])
      (λ k l e. ⊎_elim (λ b. cell_bit S k l (row_bit S k b).1) (λ z. rw (← z) blank_bit) (with_cases W 0 k e))
    where
      W : ℕ
      W = with_lines 0 (row_clues w h grid)

  -- no cell has a colour where only bit 0 is found
  colorless : grid_colors grid ≡ 1 → with_lines 0 (row_clues w h grid) ≡ 0
  colorless e = same_bits (with_lines 0 (row_clues w h grid)) 0 (lines_collect.within 0 (row_clues w h grid) (omega arith)) (omega arith)
      (λ k l b.
      let r = row_bit S k b in
      absurd (omega (arith, only_blank k (ap (λ (m : ℕ). bit m k) (sym e) ∙ cell_bit S k l r.1))))
      (λ k l b. absurd (omega (arith, bit_some 0 k b)))

  pub mask_is : cells_mask grid ≡ with_bit (color_set (row_clues w h grid)) 0
  mask_is = elim (ℕ_discrete (with_lines 0 (row_clues w h grid)) 0) [
    | yes z ↦ sym (mask_blank grid (colors_are ∙ rw (z, with_zero 0))) ∙ rw (set_none (row_clues w h grid) z, with_zero 2)
    | no n ↦ sym (mask_colors grid (λ e. n (colorless e))) ∙ colors_are ∙ rw (set_some (row_clues w h grid) n)
  ]
