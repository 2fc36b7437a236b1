-- What each of the ten families says by itself, and all of them together. It holds of every puzzle, accepted or not.
use mathlib.Core.Path.{◌≡◌, refl, ap}
use mathlib.Core.Logic.Iff
use mathlib.Core.Logic.{◌↔◌}
use mathlib.Core.Bool.{true, not}
use mathlib.Core.List.{List, [], ◌∷◌, map, flatten}
use Prim.Native.Nat.{ℕ, ◌+◌, ◌<◌}
use native.Mathlib.Omega.{arith}
use lib.Dec.{eqb}
use borrow.Author.Tests.{eq-eqb, eqb-true}
use Rattle.lists.specs.Each.{each, when}
use Rattle.lists.proofs.Tests.{not_true}
use Rattle.literals.specs.Literals.{positive, negative}
use Rattle.bits.specs.Bits.{bit, solved}
use Rattle.sections.specs.Sections.{Clause}
use Rattle.lines.specs.Clue.{gap}
use Rattle.lines.specs.Arrangement.{at, covers, clash}
use Rattle.puzzles.specs.Puzzle.{Puzzle, width, height}
use Rattle.numbering.specs.Variables.{Line, line_at, many, placed_at, first_of, variable, hues, hue, cell_first, cell_variable}
use Rattle.numbering.proofs.Bounds.{first_some}
use Rattle.placement.specs.Placement.{block_positions, block_once, non_overlap, ruled, of_lines, of_columns, of_rows}
use Rattle.placement.specs.declared.rule.Rule.{Rule}
use Rattle.placement.specs.declared.rule.Rule.TheVariants.{Positions, Once, Overlap}
use Rattle.cells.specs.Cells as C
use Rattle.cells.specs.Cells.{covering, of_color, by_column, of_cells, point_once, precomputed, mask_at, precomputed_cells}
use Rattle.cells.specs.declared.rule.Rule as D
use Rattle.cells.specs.declared.rule.Rule.TheVariants.{Color, Space}
use Rattle.cells.proofs.CoveringPositions.{map_turns, map_when}
use Rattle.counts.specs.Families.{families, clauses}
use Rattle.truth.specs.Truth.{Assignment, Satisfies}
use Rattle.pictures.specs.Meaning.{SomePosition, OnePosition, NoConflict, Covers, IsCovered, IsColored, EachColumn, EachRow, EachCell, OneColor, MaskSays, Units, Meanings}
use Rattle.pictures.proofs.TrueClauses.{Holds, none_means, one_means, append_means, cond_means, when_means, each_means, tab_means, pairs_means, product_means, some_when_means, some_each_means, yes_means, no_means, if_means, if_last_means, not_both_means, least_means, most_means}

-- ---- the positions that cover a cell, as literals or clauses are made of them

map_covering : {A : Type 0} (f : ℕ → A) (L : Line) (c t : ℕ)
    → map f (covering L c t) ≡ each (many L) (λ b. when (eqb (at L.runs b).color c) (each L.positions (λ i. when (covers (placed_at L b i) t) (f (variable L b i) ∷ []))))
unfolding covering
map_covering f L c t = simp (map_turns f, map_when f)

module _ (β : Assignment) where
  -- ---- of a line

  module _ (L : Line) where
    positions_means : Satisfies β (ruled Positions L) ↔ SomePosition β L
    unfolding ruled block_positions
    positions_means = tab_means β (many L) _ (λ b _. least_means β (first_of L b) L.positions)

    module _ (h : 0 < L.first) where
      once_means : Satisfies β (ruled Once L) ↔ OnePosition β L
      unfolding ruled block_once
      once_means =
          Iff.trans (each_means β (many L) _ (λ b _. most_means β (first_of L b) L.positions (omega arith)))
          (λ k b i j l. k b l i j, λ k b l i j. k b i j l)

      overlap_means : Satisfies β (ruled Overlap L) ↔ NoConflict β L
      unfolding ruled non_overlap
      overlap_means =
          Iff.trans (pairs_means β (many L) _ (λ a b _ _. product_means β L.positions _ (λ i j _ _.
          when_means β (clash gap (placed_at L a i) (placed_at L b j)) _ (one_means β _ (not_both_means β (variable L a i) (variable L b j) (omega arith) (omega arith))))))
          (λ k a b i j l m. k a b l m i j, λ k a b l m i j. k a b i j l m)

    module _ (c t v : ℕ) where
      -- some position that covers the cell
      covering_means : Holds β (map positive (covering L c t)) ↔ ((b : ℕ) × (i : ℕ) × Covers L c t b i × (β (variable L b i) ≡ true))
      covering_means =
          rw (map_covering positive L c t)
          (Iff.trans (some_each_means β (many L) _ (λ b _. some_when_means β (eqb (at L.runs b).color c) _
          (some_each_means β L.positions _ (λ i _. some_when_means β (covers (placed_at L b i) t) _ (yes_means β (variable L b i)))))) (
            λ (b, l, (e, (i, m, (k, h)))). (b, i, record { block_in = l; position_in = m; color_is = eqb-true (at L.runs b).color c e; covered = k }, h),
            λ (b, i, R, h). (b, R.block_in, (eq-eqb (at L.runs b).color c R.color_is, (i, R.position_in, (R.covered, h)))),
          ))

      color_means : 0 < v → Satisfies β (C.ruled Color v (covering L c t)) ↔ IsCovered β L c t v
      unfolding C.ruled
      color_means h = one_means β _ (if_last_means β v h _ covering_means)

      space_means : 0 < L.first → Satisfies β (C.ruled Space v (covering L c t)) ↔ IsColored β L c t v
      unfolding C.ruled
      space_means h =
          rw (map_covering (λ u. negative u ∷ positive v ∷ []) L c t)
          (Iff.trans (each_means β (many L) _ (λ b _. when_means β (eqb (at L.runs b).color c) _
          (each_means β L.positions _ (λ i _. when_means β (covers (placed_at L b i) t) _ (one_means β _ (if_means β (variable L b i) (omega arith) _ (yes_means β v))))))) (
            λ k b i R. k b R.block_in (eq-eqb (at L.runs b).color c R.color_is) i R.position_in R.covered,
            λ k b l e i m n. k b i (record { block_in = l; position_in = m; color_is = eqb-true (at L.runs b).color c e; covered = n }),
          ))

  -- ---- of the puzzle

  module _ (z : Puzzle) where
    line_first : (l : ℕ) → 0 < (line_at z l).first
    unfolding line_at
    line_first l = first_some z l

    cell_first_lem : (x y : ℕ) → 0 < cell_first z x y
    unfolding cell_first
    cell_first_lem x y = omega (arith, first_some z (width z + height z))

    -- 1 to 6
    module _ (rule : Rule) {P : Line → Type 0} (e : (L : Line) → 0 < L.first → Satisfies β (ruled rule L) ↔ P L) where
      columns_mean : Satisfies β (of_columns z rule) ↔ EachColumn z P
      unfolding of_lines
      columns_mean = each_means β (width z) _ (λ x _. let q : 0 + x ≡ x = omega arith in rw q (e (line_at z x) (line_first x)))

      rows_mean : Satisfies β (of_rows z rule) ↔ EachRow z P
      unfolding of_lines
      rows_mean = each_means β (height z) _ (λ y _. e (line_at z (width z + y)) (line_first (width z + y)))

    by_column_means : (f : ℕ → ℕ → List Clause) {P : ℕ → ℕ → Type 0} → ((x y : ℕ) → Satisfies β (f x y) ↔ P x y)
        → Satisfies β (by_column z f) ↔ ((x y : ℕ) → x < width z → y < height z → P x y)
    unfolding by_column
    by_column_means f e = Iff.trans (each_means β (width z) _ (λ x _. each_means β (height z) _ (λ y _. e x y))) (λ h x y l. h x l y, λ h x l y. h x y l)

    -- 7, 8
    cells_mean : (rule : D.Rule) {P : Line → ℕ → ℕ → ℕ → Type 0} → ((L : Line) (c t v : ℕ) → 0 < L.first → 0 < v → Satisfies β (C.ruled rule v (covering L c t)) ↔ P L c t v)
        → Satisfies β (of_cells z rule) ↔ EachCell z P
    unfolding of_color
    cells_mean rule e =
        Iff.trans (by_column_means _ (λ x y. each_means β (hues z) _ (λ r _.
        let v : 0 < cell_variable z x y r = omega (arith, cell_first_lem x y) in
        append_means β _ _ (e (line_at z x) (hue z r) y _ (line_first x) v) (e (line_at z (width z + y)) (hue z r) x _ (line_first (width z + y)) v))))
        (λ h x y r l m. h x y l m r, λ h x y l m r. h x y r l m)

    -- 9
    points_mean : Satisfies β (point_once z) ↔ OneColor z β
    points_mean = Iff.trans (by_column_means _ (λ x y. most_means β (cell_first z x y) (hues z) (cell_first_lem x y))) (λ h x y r s l m. h x y l m r s, λ h x y l m r s. h x y r s l m)

    -- 10
    unit_means : (mask c v : ℕ) → 0 < v → Satisfies β (precomputed mask c v) ↔ MaskSays mask c (β v)
    unfolding precomputed
    unit_means mask c v h =
        Iff.trans
        (cond_means β (solved mask) _ _
        (cond_means β (bit mask 0) _ _ (one_means β _ (no_means β v h)) (when_means β (bit mask c) _ (one_means β _ (yes_means β v))))
        (when_means β (not (bit mask c)) _ (one_means β _ (no_means β v h)))) (
          λ k. record { solved_color = λ s. (k.0 s).1; solved_blank = λ s. (k.0 s).0; excluded = λ s e. k.1 s (ap not e) },
          λ U. (λ s. (U.solved_blank s, U.solved_color s), λ s e. U.excluded s (not_true (bit mask c) e)),
        )

    units_mean : Satisfies β (precomputed_cells z) ↔ Units z β
    unfolding precomputed_cells
    units_mean =
        Iff.trans (each_means β (height z) _ (λ y _. each_means β (width z) _ (λ x _. each_means β (hues z) _ (λ r _.
        unit_means (mask_at z x y) (hue z r) (cell_variable z x y r) (omega (arith, cell_first_lem x y))))))
        (λ h x y r l m. h y m x l r, λ h y m x l r. h x y r l m)

-- the ten meanings
pub meanings : (z : Puzzle) (β : Assignment) → Meanings z β
unfolding families
meanings z β = record {
  sections = refl;
  one = columns_mean β z Positions (λ L _. positions_means β L);
  two = rows_mean β z Positions (λ L _. positions_means β L);
  three = columns_mean β z Once (once_means β);
  four = rows_mean β z Once (once_means β);
  five = columns_mean β z Overlap (overlap_means β);
  six = rows_mean β z Overlap (overlap_means β);
  seven = cells_mean β z Color (λ L c t v _ h. color_means β L c t v h);
  eight = cells_mean β z Space (λ L c t v h _. space_means β L c t v h);
  nine = points_mean β z;
  ten = units_mean β z;
}

-- what all ten say
pub record Said (z : Puzzle) (β : Assignment) : Type 0 where
  pub some_columns : EachColumn z (SomePosition β)
  pub some_rows : EachRow z (SomePosition β)
  pub one_columns : EachColumn z (OnePosition β)
  pub one_rows : EachRow z (OnePosition β)
  pub apart_columns : EachColumn z (NoConflict β)
  pub apart_rows : EachRow z (NoConflict β)
  pub covered : EachCell z (IsCovered β)
  pub colored : EachCell z (IsColored β)
  pub one_color : OneColor z β
  pub units : Units z β

pub solved_said : (z : Puzzle) (β : Assignment) → Satisfies β (clauses z) ↔ Said z β
unfolding families flatten
solved_said z β =
    let S = meanings z β in
    Iff.trans (append_means β _ _ S.one (append_means β _ _ S.two (append_means β _ _ S.three (append_means β _ _ S.four (append_means β _ _ S.five (append_means β _ _ S.six
    (append_means β _ _ S.seven (append_means β _ _ S.eight (append_means β _ _ S.nine (append_means β _ _ S.ten (none_means β))))))))))) (
      λ (a, (b, (c, (d, (e, (f, (g, (h, (i, (j, _)))))))))). record {
        some_columns = a;
        some_rows = b;
        one_columns = c;
        one_rows = d;
        apart_columns = e;
        apart_rows = f;
        covered = g;
        colored = h;
        one_color = i;
        units = j;
      },
      λ K. (K.some_columns, (K.some_rows, (K.one_columns, (K.one_rows, (K.apart_columns, (K.apart_rows, (K.covered, (K.colored, (K.one_color, (K.units, tt)))))))))),
    )
