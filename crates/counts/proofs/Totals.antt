-- The ten families together: how many literals and words they have, and that every count fits an i32.
use mathlib.Core.Path.{◌≡◌, refl, sym, ap, ◌∙◌}
use mathlib.Core.Bool.{false}
use mathlib.Core.List.{List, [], ◌∷◌, flatten, flat_map}
use Prim.Native.Nat.{ℕ, ◌+◌, ◌-◌, ◌*◌, ◌/◌, ◌≤◌, ◌<◌}
use native.Mathlib.Omega.{arith}
use native.Mathlib.Nat.{zero-add, mul-le-mul_right, mul-le-mul_left}
use lib.Count.{ones}
use lib.ListN.{length, get_or, length-append}
use Rattle.lists.specs.Each.{sum}
use Rattle.bits.specs.Bits.{bit}
use Rattle.sections.specs.Sections.{Clause, section_words, sections_words, literals}
use Rattle.sections.proofs.ClauseLists.{literals_append, section_length}
use Rattle.puzzles.specs.Puzzle.{Puzzle, width, height, lines}
use Rattle.puzzles.specs.Good.{Good}
use Rattle.puzzles.proofs.ColorSets.{good_known}
use Rattle.puzzles.specs.Firsts.{first_at}
use Rattle.boards.specs.Reading.{Stands}
use Rattle.boards.specs.declared.board.Board.{Board}
use Rattle.numbering.specs.Variables.{hues, variables}
use Rattle.numbering.proofs.Bounds.{hues_most, cells_most, cells_first}
use Rattle.placement.specs.Placement.{of_lines, of_columns, of_rows}
use Rattle.placement.specs.declared.rule.Rule.{Rule}
use Rattle.placement.specs.declared.rule.Rule.TheVariants.{Positions, Once, Overlap}
use Rattle.cells.specs.Cells.{of_cells, point_once, precomputed_cells}
use Rattle.cells.specs.declared.rule.Rule.TheVariants.{Color, Space}
use Rattle.counts.specs.Families.{families, clauses, buffer, counts_of}
use Rattle.counts.specs.Formulas.{over_lines, units_by}
use Rattle.counts.specs.Counted.{SideCounted, CellsCounted, SmallSums, summed, Counted, numbers}
use Rattle.counts.specs.declared.total.Side.{Side}
use Rattle.counts.specs.declared.total.Cells.{Cells}
use Rattle.counts.specs.declared.total.Counts.{Counts}
use Rattle.counts.specs.declared.measure.Measure.TheVariants as M
use Rattle.counts.proofs.Placed.{measure, lines_length, lines_once, lines_overlap, lines_variables}
use Rattle.counts.proofs.Covered.{cells_space}
use Rattle.counts.proofs.Colored.{cells_color, cells_point, point_twos, space_twos, color_literals}
use Rattle.counts.proofs.UnitClauses.{hues_ones, hues_some, cells_units, units_ones}
use Rattle.counts.proofs.Bounded.{most, most_most, lines_most, unit_most, point_most}

-- the words of sections: their counts, their clauses' counts and their literals
sections_length : (ss : List (List Clause)) → length (sections_words ss) ≡ length ss + length (flatten ss) + literals (flatten ss)
unfolding flat_map flatten literals
sections_length [] = refl
sections_length (s ∷ ss) =
    omega (arith, length-append (section_words s) (sections_words ss), section_length s, sections_length ss, length-append s (flatten ss), literals_append s (flatten ss))

-- a number of each family, added up
added : (List Clause → ℕ) → List (List Clause) → ℕ
added f [] = 0
added f (s ∷ ss) = f s + added f ss

joined_length : (ss : List (List Clause)) → length (flatten ss) ≡ added length ss
unfolding flatten added
joined_length [] = refl
joined_length (s ∷ ss) = omega (arith, length-append s (flatten ss), joined_length ss)

joined_literals : (ss : List (List Clause)) → literals (flatten ss) ≡ added literals ss
unfolding flatten added literals
joined_literals [] = refl
joined_literals (s ∷ ss) = omega (arith, literals_append s (flatten ss), joined_literals ss)

module _ (z : Puzzle) where
  abbrev twos : ℕ
  twos =
      length (of_columns z Once) + length (of_rows z Once) + length (of_columns z Overlap) + length (of_rows z Overlap)
      + length (of_cells z Space) + length (point_once z)

  literals_each : literals (clauses z)
      ≡ literals (of_columns z Positions) + (literals (of_rows z Positions) + (literals (of_columns z Once) + (literals (of_rows z Once) + (literals (of_columns z Overlap) + (literals (of_rows z Overlap)
      + (literals (of_cells z Color) + (literals (of_cells z Space) + (literals (point_once z) + (literals (precomputed_cells z) + 0)))))))))
  unfolding families added
  literals_each = joined_literals (families z)

  -- all literals
  pub literals_all : {first : ℕ} → first ≡ first_at z (lines z)
      → literals (clauses z) ≡ first - 1 + 2 * twos + length (of_cells z Color) + length (of_cells z Space) + length (precomputed_cells z)
  unfolding first_at
  literals_all e =
      let c : 1 + literals (of_columns z Positions) ≡ first_at z (width z) = lines_variables z 0 (width z) ∙ ap (first_at z) (zero-add (width z)) in
      let r : first_at z (width z) + literals (of_rows z Positions) ≡ first_at z (lines z) = lines_variables z (width z) (height z) in
      omega (
        arith,
        e,
        c,
        r,
        literals_each,
        lines_once z 0 (width z),
        lines_once z (width z) (height z),
        lines_overlap z 0 (width z),
        lines_overlap z (width z) (height z),
        color_literals z,
        space_twos z,
        point_twos z,
        units_ones z,
      )

  -- all words
  pub words_all : length (buffer z) ≡ 10 + (length (of_columns z Positions) + length (of_rows z Positions) + twos + length (of_cells z Color) + length (precomputed_cells z)) + literals (clauses z)
  unfolding families added
  words_all = omega (arith, sections_length (families z), joined_length (families z))

  module _ (G : Good z) where
    -- every clause count fits an i32
    pub record Small : Type 0 where
      pub columns_positions : length (of_columns z Positions) ≤ 4096
      pub rows_positions : length (of_rows z Positions) ≤ 4096
      pub columns_once : length (of_columns z Once) ≤ 8519680
      pub rows_once : length (of_rows z Once) ≤ 8519680
      pub columns_overlap : length (of_columns z Overlap) ≤ 66027520
      pub rows_overlap : length (of_rows z Overlap) ≤ 66027520
      pub color : length (of_cells z Color) ≤ 253952
      pub space : length (of_cells z Space) ≤ 532480
      pub point : length (point_once z) ≤ 1904640
      pub units : length (precomputed_cells z) ≤ 126976

    side : (rule : Rule) (l n : ℕ) → l + n ≤ lines z → length (of_lines z rule l n) ≤ n * most (measure rule)
    side rule l n h = omega (arith, lines_length z G rule l n h, lines_most z G (measure rule) l n h)

    -- of up to 64 lines
    pub rule_small : (rule : Rule) (l n : ℕ) → l + n ≤ lines z → n ≤ 64 → length (of_lines z rule l n) < 2147483648
    rule_small rule l n h few = omega (arith, side rule l n h, mul-le-mul_left n (most_most (measure rule)))

    pub counts_small : Small
    counts_small = record {
      columns_positions = omega (arith, side Positions 0 (width z) (omega arith), G.width_most);
      rows_positions = omega (arith, side Positions (width z) (height z) (omega arith), G.height_most);
      columns_once = omega (arith, side Once 0 (width z) (omega arith), G.width_most);
      rows_once = omega (arith, side Once (width z) (height z) (omega arith), G.height_most);
      columns_overlap = omega (arith, side Overlap 0 (width z) (omega arith), G.width_most);
      rows_overlap = omega (arith, side Overlap (width z) (height z) (omega arith), G.height_most);
      color = omega (arith, cells_color z, cells_hues);
      space = omega (arith, cells_space z G, lines_most z G M.Space 0 (lines z) (omega arith), G.width_most, G.height_most);
      point = omega (arith, cells_point z, point_most z G);
      units = omega (arith, cells_units z G, unit_most z G);
    }
      where
        cells_hues : width z * height z * hues z ≤ 126976
        cells_hues = omega (arith, mul-le-mul_right (hues z) (cells_most z G), hues_most z)

    -- 21 lets as many words through
    pub buffer_most : length (buffer z) ≤ 1073741824
    buffer_most = omega (arith, words_all, literals_all refl, counts_small, (cells_first z G).0)

-- ---- the numbers of the code

module _ (z : Puzzle) (G : Good z) {b : Board} (S : Stands b z) where
  -- the colours, and the cells
  pub board_hues : ones b.colors ≡ hues z
  board_hues = ap ones S.colors_is ∙ sym (hues_ones z G)

  pub board_area : b.width * b.height ≡ width z * height z
  board_area = rw (S.width_is, S.height_is)

  pub record Few : Type 0 where
    pub wide : b.width ≤ 64
    pub high : b.height ≤ 64
    pub some : 0 < ones b.colors
    pub hues_few : ones b.colors ≤ 31
    pub area : b.width * b.height ≤ 4096
    pub colored : b.width * b.height * ones b.colors ≤ 126976
    pub pairs : ones b.colors * (ones b.colors - 1) ≤ 930
    pub points : b.width * b.height * (ones b.colors * (ones b.colors - 1) / 2) ≤ 1904640

  pub few : Few
  few = record {
    wide = omega (arith, S.width_is, G.width_most);
    high = omega (arith, S.height_is, G.height_most);
    some = omega (arith, board_hues, hues_some z G);
    hues_few = omega (arith, board_hues, hues_most z);
    area = omega (arith, board_area, cells_most z G);
    colored = rw (board_hues, board_area) (omega (arith, mul-le-mul_right (hues z) (cells_most z G), hues_most z));
    pairs = rw board_hues (omega (arith, mul-le-mul_right {m = hues z} {n = 31} (hues z - 1) (hues_most z), hues_most z));
    points = rw (board_hues, board_area) (point_most z G);
  }

  pub blank_off : bit b.colors 0 ≡ false
  blank_off = rw S.colors_is (good_known z G).blank

  pub cells_counted : {space units : ℕ} → space ≡ over_lines z M.Space 0 (b.width + b.height) → {masks : List ℕ} → masks ≡ z.masks → units ≡ sum (length masks) (λ i. units_by b.colors (get_or masks i 0))
      → CellsCounted z (record { color = 2 * (b.width * b.height * ones b.colors); space = space; point = b.width * b.height * (ones b.colors * (ones b.colors - 1) / 2); units = units })
  cells_counted {space} {units} se {masks} me ue = record {
    color_is = rw (board_area, board_hues) (sym (cells_color z));
    space_is = se ∙ rw (S.width_is, S.height_is) (sym (cells_space z G));
    point_is = rw (board_area, board_hues) (sym (cells_point z));
    units_is = ue ∙ rw (me, S.colors_is) (sym (cells_units z G));
  }

  cells_begin : (0 < b.first) × (b.first ≤ 135169)
  cells_begin = omega_first S.first_is (cells_first z G)
    where
      omega_first : {n m : ℕ} → n ≡ m → (m ≤ 135169) × (0 < m) → (0 < n) × (n ≤ 135169)
      omega_first e h = (omega (arith, e, h.1), omega (arith, e, h.0))

  -- the sums stay small
  pub sums_small : {columns rows : Side} {cells : Cells} → SideCounted z 0 b.width columns → SideCounted z b.width b.height rows → CellsCounted z cells → SmallSums b.first columns rows cells
  sums_small C R X =
      let C' = rw S.width_is at C in
      let R' = rw (S.width_is, S.height_is) at R in
      let small = counts_small z G in
      record {
        first_some = cells_begin.0;
        first_most = cells_begin.1;
        positions = omega (arith, C', R', small);
        twos = omega (arith, C', R', X, small);
        color = omega (arith, X, small);
        space = omega (arith, X, small);
        units = omega (arith, X, small);
      }

  pub all_counted : {columns rows : Side} {cells : Cells} → SideCounted z 0 b.width columns → SideCounted z b.width b.height rows → CellsCounted z cells → Counted z (summed b.first columns rows cells)
  unfolding variables
  all_counted {columns} {rows} {cells} C R X =
      let C' = rw S.width_is at C in
      let R' = rw (S.width_is, S.height_is) at R in
      record {
        variables_is = omega (arith, S.first_is, X.color_is, cells_color z);
        columns_are = C';
        rows_are = R';
        cells_are = X;
        literals_is = omega (arith, literals_all z S.first_is, C', R', X);
        words_is = omega (arith, words_all z, literals_all z S.first_is, C', R', X);
      }

-- the numbers that are written
pub numbers_are : (z : Puzzle) {c : Counts} → Counted z c → numbers c ≡ counts_of z
unfolding counts_of families
numbers_are z C =
    rw (
      C.variables_is,
      C.columns_are.positions_is,
      C.rows_are.positions_is,
      C.columns_are.once_is,
      C.rows_are.once_is,
      C.columns_are.overlap_is,
      C.rows_are.overlap_is,
      C.cells_are.color_is,
      C.cells_are.space_is,
      C.cells_are.point_is,
      C.cells_are.units_is,
      C.literals_is,
      C.words_is,
    )

pub counts_length : (z : Puzzle) → length (counts_of z) ≡ 13
unfolding counts_of families
counts_length z = refl
