-- The words of the columns, counted row by row: each row gives two for each of its cells that begins a run of its column.
use mathlib.Core.Path.{◌≡◌, refl, sym, ap, ◌∙◌}
use mathlib.Core.List.{List}
use Prim.Native.Nat.{ℕ, suc, ◌+◌, ◌-◌, ◌*◌, ◌≤◌, ◌<◌}
use native.Mathlib.Omega.{arith}
use native.Mathlib.Numerals.{add-one}
use native.Mathlib.Nat.{mul-one, one-mul, mul-zero, zero-mul, suc-mul, mul_comm, mul-le-mul_right}
use lib.ListN.{length, take, drop, get_or, replicate, get_or-replicate}
use Rattle.lists.specs.Each.{each, sum}
use Rattle.lists.proofs.Parts.{part_within, part_tab, each_most}
use Rattle.lists.proofs.Sums.{sum_same, sum_both, sum_constant, sum_times, sum_most, length_each}
use Rattle.runs.specs.Begins.{begins}
use Rattle.lines.specs.Calls.{line_words}
use Rattle.lines.specs.Line.{runs}
use Rattle.runs.proofs.Growing.{before, words_none, words_grow, begins_most}
use Rattle.puzzles.specs.Puzzle.{clue_words, lines_words}
use Rattle.grids.specs.Grid.{row, column, column_clues}
use Rattle.grids.specs.Sized.{Sized}
use Rattle.grids.proofs.Cells.{row_length, row_cell_lem, column_length}
use Rattle.grids.proofs.ClueSections.{clue_length, clue_most, section_length}

-- ---- the cells of a row, one at a time

-- how many of the first n cells of a row begin a run, after the cells above them
abbrev pub begun_in : List ℕ → List ℕ → ℕ → ℕ
begun_in row above n = sum n (λ x. begins (get_or above x 0) (get_or row x 0))

pub record Finding (row above : List ℕ) (count i : ℕ) : Type 0 where
  pub within : i ≤ length row
  pub few : count ≤ i
  pub counted : count ≡ begun_in row above i

pub finding_first : (row above : List ℕ) → Finding row above 0 0
unfolding sum
finding_first row above = record { within = omega arith; few = omega arith; counted = refl }

module _ {row above : List ℕ} {count i : ℕ} (F : Finding row above count i) (h : i < length row) where
  pub finding_next : {k : ℕ} → k ≡ begins (get_or above i 0) (get_or row i 0) → k ≤ 1 → Finding row above (count + k) (i + 1)
  unfolding sum
  finding_next e l = record { within = omega arith; few = omega (arith, F.few); counted = rw (add-one i) (omega (arith, F.counted, e)) }

pub finding_done : {row above : List ℕ} {count i : ℕ} → Finding row above count i → length row ≤ i → count ≡ begun_in row above (length row)
finding_done {row} {above} F h =
    F.counted ∙ ap (begun_in row above) (omega (arith, F.within))

-- ---- the rows, one at a time

module _ (w : ℕ) (grid : List ℕ) where
  -- how many cells of row y begin a run
  begun_row : ℕ → ℕ
  begun_row y = sum w (λ x. begins (before y (λ y. get_or grid (y * w + x) 0)) (get_or grid (y * w + x) 0))

  -- the words of the columns down to row y
  abbrev pub columns_words : ℕ → ℕ
  columns_words y = sum w (λ x. length (line_words (column w y grid x)))

  columns_none : columns_words 0 ≡ 0
  unfolding column
  columns_none = sum_same w _ (λ x. 0) (λ x l. words_none (λ y. get_or grid (y * w + x) 0)) ∙ sum_constant w 0 ∙ mul-zero w

  columns_grow : (y : ℕ) → columns_words (suc y) ≡ columns_words y + 2 * begun_row y
  unfolding column begun_row
  columns_grow y =
      let b : ℕ → ℕ = λ x. begins (before y (λ y. get_or grid (y * w + x) 0)) (get_or grid (y * w + x) 0) in
      sum_same w _ _ (λ x l. words_grow y (λ y. get_or grid (y * w + x) 0))
      ∙ sum_both w (λ x. length (line_words (column w y grid x))) (λ x. 2 * b x)
      ∙ ap (λ (k : ℕ). columns_words y + k) (sum_times w 2 b)

pub record Descending (w h : ℕ) (grid : List ℕ) (count y : ℕ) : Type 0 where
  pub some : 0 < y
  pub within : y ≤ h
  pub few : count ≤ y * 64
  pub counted : 2 * count ≡ columns_words w grid y

descending_more : {w h : ℕ} {grid : List ℕ} {count y more : ℕ} → w ≤ 64 → 2 * count ≡ columns_words w grid y → count ≤ y * 64 → y < h → more ≡ begun_row w grid y
    → Descending w h grid (count + more) (y + 1)
unfolding begun_row
descending_more {w} {h} {grid} {count} {y} {more} s e few l m =
    let most : more ≤ w * 1 = rw m (sum_most w 1 _ (λ x k. begins_most _ _)) in
    record {
      some = omega arith;
      within = omega arith;
      few = omega (arith, most, mul-one w);
      counted = rw (add-one y) (omega (arith, columns_grow w grid y));
    }

-- a row by its cells, r, and those above them, a
module _ {w h : ℕ} {grid : List ℕ} (S : Sized w h grid) where
  begun_row_lem : (y : ℕ) (r a : List ℕ) → r ≡ row w grid y → ((x : ℕ) → x < w → get_or a x 0 ≡ before y (λ y. get_or grid (y * w + x) 0)) → begun_in r a (length r) ≡ begun_row w grid y
  unfolding begun_row
  begun_row_lem y r a e g =
      ap (begun_in r a) (ap length e ∙ row_length w h grid y)
      ∙ sum_same w _ _ (λ x l. rw (e, row_cell_lem w h grid x y l, g x l))

  part_row : (y s m : ℕ) → y < h → s ≡ y * w → m ≡ w → take m (drop s grid) ≡ row w grid y
  unfolding row
  part_row y s m l a b = rw (a, b) (part_tab 0 grid (y * w) w (omega (arith, part_within h w y l, S.cells, mul_comm w h)))

  -- the first row, under a blank one
  first_row : take (w - 0) (drop 0 grid) ≡ row w grid 0
  first_row = part_row 0 0 (w - 0) S.height_some (sym (zero-mul w)) (omega arith)

  pub first_end : w ≤ length grid
  first_end = omega (arith, part_within h w 0 S.height_some, zero-mul w, S.cells, mul_comm w h)

  pub first_length : length (take (w - 0) (drop 0 grid)) ≡ w
  first_length = ap length first_row ∙ row_length w h grid 0

  pub descending_first : {count : ℕ} → count ≡ begun_in (take (w - 0) (drop 0 grid)) (replicate 64 0) (length (take (w - 0) (drop 0 grid))) → Descending w h grid count 1
  unfolding before
  descending_first {count} m =
      let b = begun_row_lem 0 _ (replicate 64 0) first_row (λ x l. get_or-replicate 64 x 0 0 (omega (arith, S.width_most))) in
      let z : 0 + count ≡ count = omega arith in
      rw z at (descending_more {count = 0} {y = 0} S.width_most (sym (columns_none w grid)) (omega arith) S.height_some (m ∙ b))

  -- each other row, under the one before
  module _ {count y : ℕ} (D : Descending w h grid count y) (l : y < h) where
    pub row_end : y * w + w ≤ length grid
    row_end = omega (arith, part_within h w y l, S.cells, mul_comm w h)

    pub row_begin : w ≤ y * w
    row_begin = omega (arith, mul-le-mul_right {m = 1} {n = y} w D.some, one-mul w)

    row_here : take (y * w + w - y * w) (drop (y * w) grid) ≡ row w grid y
    row_here = part_row y (y * w) (y * w + w - y * w) l refl (omega arith)

    pub row_length_here : length (take (y * w + w - y * w) (drop (y * w) grid)) ≡ w
    row_length_here = ap length row_here ∙ row_length w h grid y

    above : (k : ℕ) → y ≡ suc k → take (y * w - (y * w - w)) (drop (y * w - w) grid) ≡ row w grid k
    above k e = part_row k (y * w - w) (y * w - (y * w - w)) (omega arith) (omega (arith, ap (λ (n : ℕ). n * w) e, suc-mul k w)) (omega (arith, row_begin))

    before_suc : (k x : ℕ) → y ≡ suc k → get_or grid (k * w + x) 0 ≡ before y (λ y. get_or grid (y * w + x) 0)
    unfolding before
    before_suc k x e = rw e

    last_row : y ≡ suc (y - 1)
    last_row = omega (arith, D.some)

    pub row_length_above : length (take (y * w - (y * w - w)) (drop (y * w - w) grid)) ≡ w
    row_length_above = ap length (above (y - 1) last_row) ∙ row_length w h grid (y - 1)

    pub descending_next : {more : ℕ} → more ≡ begun_in (take (y * w + w - y * w) (drop (y * w) grid)) (take (y * w - (y * w - w)) (drop (y * w - w) grid)) (length (take (y * w + w - y * w) (drop (y * w) grid)))
        → Descending w h grid (count + more) (y + 1)
    descending_next m =
        let b = begun_row_lem y _ (take (y * w - (y * w - w)) (drop (y * w - w) grid)) row_here (λ x i. ap (λ (r : List ℕ). get_or r x 0) (above (y - 1) last_row) ∙ row_cell_lem w h grid x (y - 1) i ∙ before_suc (y - 1) x last_row) in
        descending_more S.width_most D.counted D.few l (m ∙ b)

  -- ---- the words of them all

  columns_length : length (lines_words (column_clues w h grid)) ≡ 1 + w + columns_words w grid h
  unfolding column_clues
  columns_length =
      let c : ℕ → List ℕ = column w h grid in
      let e : length (each w (λ x. clue_words (runs (c x)))) ≡ sum w (λ x. 1) + sum w (λ x. length (line_words (c x))) =
      length_each w (λ x. clue_words (runs (c x))) ∙ sum_same w _ _ (λ x l. clue_length (c x)) ∙ sum_both w (λ x. 1) (λ x. length (line_words (c x))) in
      omega (arith, section_length w (λ x. runs (c x)), e, sum_constant w 1, mul-one w)

  pub descending_done : {count y : ℕ} → Descending w h grid count y → h ≤ y → 1 + w + 2 * count ≡ length (lines_words (column_clues w h grid))
  descending_done {count} {y} D l =
      let e : y ≡ h = omega (arith, D.within) in
      omega (arith, D.counted, columns_length, ap (λ (n : ℕ). columns_words w grid n) e)

  pub columns_most : length (lines_words (column_clues w h grid)) ≤ 8257
  unfolding column_clues
  columns_most = omega (
    arith,
    section_length w (λ x. runs (column w h grid x)),
    each_most w 129 (λ x. clue_words (runs (column w h grid x))) (λ x. clue_most (column w h grid x) (omega (arith, column_length w h grid x, S.height_most))),
    S.width_most,
  )
