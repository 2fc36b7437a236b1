-- What the ten families say of an assignment that extends a grid: the grid is a picture. And of each picture there is such an assignment.
use mathlib.Core.Path.{◌≡◌, sym, ap, ◌∙◌}
use mathlib.Core.Bool.{true}
use mathlib.Core.List.{List}
use Prim.Native.Nat.{ℕ, ◌+◌, ◌*◌, ◌<◌}
use native.Mathlib.Omega.{arith}
use lib.Dec.{eqb}
use lib.ListN.{length, get_or}
use borrow.Author.Tests.{eqb-true}
use Rattle.puzzles.specs.Puzzle.{Puzzle, width, height}
use Rattle.puzzles.specs.Good.{Good}
use Rattle.puzzles.proofs.Lines.{clue_column, length_column, clue_row, length_row}
use Rattle.numbering.specs.Variables.{hue, cell_variable}
use Rattle.grids.specs.Grid.{row, column}
use Rattle.grids.proofs.Cells.{cell_within, row_length, row_cell_lem, column_length, column_cell_lem}
use Rattle.truth.specs.Truth.{Assignment, value}
use Rattle.pictures.specs.Pictures.{IsColor, Grid, Picture, Extends, obeys}
use Rattle.pictures.proofs.EachFamily.{Said}
use Rattle.pictures.proofs.ColorsOfK.{hue_once}
use Rattle.pictures.proofs.LineReads.{LineSaid, LineCells, said_reads, reads_said}
use Rattle.pictures.proofs.Masks.{units_obeyed, obeyed_units}
use Rattle.pictures.proofs.GridModel.{model, model_extends, model_column, model_row}
use Rattle.pictures.proofs.ShownGrid.{each_cell}

module _ (z : Puzzle) where
  abbrev column_cell : ℕ → ℕ → ℕ → ℕ
  column_cell x t r = cell_variable z x t r

  abbrev row_cell : ℕ → ℕ → ℕ → ℕ
  row_cell y t r = cell_variable z t y r

  -- ---- a grid's lines

  cell_known : {grid : List ℕ} → Grid z grid → (x y : ℕ) → x < width z → y < height z → IsColor z (get_or grid (y * width z + x) 0)
  cell_known Q x y h k = Q.known (y * width z + x) (rw Q.cells (cell_within (width z) (height z) x y h k))

  module _ {grid : List ℕ} (Q : Grid z grid) {β : Assignment} (E : Extends z grid β) where
    pub column_cells : (x : ℕ) → x < width z → LineCells z x β (column_cell x) (column (width z) (height z) grid x)
    column_cells x h = record {
      long = column_length (width z) (height z) grid x ∙ sym (length_column z x h);
      known = λ t i. let k = rw (length_column z x h) at i in rw (column_cell_lem (width z) (height z) grid x t k) (cell_known Q x t h k);
      told = λ t r i j. let k = rw (length_column z x h) at i in E x t r h k j ∙ ap (λ (c : ℕ). eqb c (hue z r)) (sym (column_cell_lem (width z) (height z) grid x t k));
    }

    pub row_cells : (y : ℕ) → y < height z → LineCells z (width z + y) β (row_cell y) (row (width z) grid y)
    row_cells y h = record {
      long = row_length (width z) (height z) grid y ∙ sym (length_row z y);
      known = λ t i. let k = rw (length_row z y) at i in rw (row_cell_lem (width z) (height z) grid t y k) (cell_known Q t y k h);
      told = λ t r i j. let k = rw (length_row z y) at i in E t y r k h j ∙ ap (λ (c : ℕ). eqb c (hue z r)) (sym (row_cell_lem (width z) (height z) grid t y k));
    }

  -- ---- what is said of a line

  module _ {β : Assignment} (S : Said z β) where
    pub column_said : (x : ℕ) → x < width z → LineSaid z x β (column_cell x)
    column_said x h = record {
      some = S.some_columns x h;
      one = S.one_columns x h;
      apart = S.apart_columns x h;
      covered = λ t r i j. (S.covered x t r h (rw (length_column z x h) at i) j).0;
      colored = λ t r i j. (S.colored x t r h (rw (length_column z x h) at i) j).0;
    }

    pub row_said : (y : ℕ) → y < height z → LineSaid z (width z + y) β (row_cell y)
    row_said y h = record {
      some = S.some_rows y h;
      one = S.one_rows y h;
      apart = S.apart_rows y h;
      covered = λ t r i j. (S.covered t y r (rw (length_row z y) at i) h j).1;
      colored = λ t r i j. (S.colored t y r (rw (length_row z y) at i) h j).1;
    }

  module _ (G : Good z) {grid : List ℕ} (Q : Grid z grid) where
    -- ---- an assignment's grid is a picture

    pub said_picture : {β : Assignment} → Said z β → Extends z grid β → Picture z grid
    said_picture S E = record {
      columns_read = λ x h. said_reads z G x (omega arith) (column_said S x h) (column_cells Q E x h) ∙ clue_column z x h;
      rows_read = λ y h. said_reads z G (width z + y) (omega arith) (row_said S y h) (row_cells Q E y h) ∙ clue_row z y;
      masks_obeyed = λ i h. each_cell z (λ i. obeys (get_or z.masks i 0) (get_or grid i 0) ≡ true) (λ x y j k.
          let known : y * width z + x < length z.masks = rw G.area (cell_within (width z) (height z) x y j k) in
          units_obeyed z _ _ (cell_known Q x y j k) (G.solved_known _ known) (λ r l. rw (← E x y r j k l) (S.units x y r j k l))) i (rw Q.cells at h);
    }

    -- ---- a picture's model satisfies the families

    module _ (P : Picture z grid) where
      abbrev β : Assignment
      β = value (model z grid)

      abbrev E : Extends z grid β
      E = model_extends z grid

      told_column : (x : ℕ) → x < width z → LineSaid z x β (column_cell x)
      told_column x h =
          reads_said z G x (omega arith) (P.columns_read x h ∙ sym (clue_column z x h)) (column_cells Q E x h)
          (model_column z grid x h)

      told_row : (y : ℕ) → y < height z → LineSaid z (width z + y) β (row_cell y)
      told_row y h =
          reads_said z G (width z + y) (omega arith) (P.rows_read y h ∙ sym (clue_row z y)) (row_cells Q E y h)
          (model_row z grid y h)

      pub picture_said : Said z β
      picture_said = record {
        some_columns = λ x h. (told_column x h).some;
        some_rows = λ y h. (told_row y h).some;
        one_columns = λ x h. (told_column x h).one;
        one_rows = λ y h. (told_row y h).one;
        apart_columns = λ x h. (told_column x h).apart;
        apart_rows = λ y h. (told_row y h).apart;
        covered = λ x y r h k l. ((told_column x h).covered y r (rw (length_column z x h) k) l, (told_row y k).covered x r (rw (length_row z y) h) l);
        colored = λ x y r h k l. ((told_column x h).colored y r (rw (length_column z x h) k) l, (told_row y k).colored x r (rw (length_row z y) h) l);
        one_color = λ x y r s h k l m e f.
            let c = get_or grid (y * width z + x) 0 in
            let q = eqb-true c (hue z r) (sym (E x y r h k (omega arith)) ∙ e) in
            let p = eqb-true c (hue z s) (sym (E x y s h k m) ∙ f) in
            omega (arith, hue_once z r s (omega arith) m (sym q ∙ p));
        units = λ x y r h k l.
            let c = cell_within (width z) (height z) x y h k in
            rw (E x y r h k l) (obeyed_units z _ _ (cell_known Q x y h k) (P.masks_obeyed _ (rw Q.cells c)) r l);
      }
