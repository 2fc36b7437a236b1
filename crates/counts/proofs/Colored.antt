-- Families 7 and 9, and the literals of 7 to 9.
use mathlib.Core.Path.{◌≡◌, refl, sym, ◌∙◌}
use mathlib.Core.List.{List, [], ◌∷◌, ◌++◌, map}
use Prim.Native.Nat.{ℕ, ◌+◌, ◌*◌}
use native.Mathlib.Omega.{arith}
use native.Mathlib.Nat.{mul_assoc, mul_comm}
use lib.ListN.{length, length-append, length-map}
use Rattle.lists.proofs.Eaches.{each_length}
use Rattle.literals.specs.Literals.{positive, negative}
use Rattle.sections.specs.Sections.{Clause, literals}
use Rattle.puzzles.specs.Puzzle.{Puzzle, width, height}
use Rattle.numbering.specs.Variables.{line_at, hues, hue, cell_first, cell_variable}
use Rattle.cells.specs.Cells.{covering, ruled, of_color, by_column, of_cells, point_once}
use Rattle.cells.specs.declared.rule.Rule.TheVariants.{Color, Space}
use Rattle.counts.specs.Formulas.{color_count, point_count}
use Rattle.counts.proofs.Literals.{HasEach, each_has, append_has, map_has, each_more}
use Rattle.counts.proofs.Placed.{once_length, once_twos}

more : (v : ℕ) (us ts : List ℕ) → literals (ruled Color v us ++ ruled Color v ts) ≡ length (ruled Color v us ++ ruled Color v ts) + length (ruled Space v us ++ ruled Space v ts)
unfolding ruled literals
more v us ts =
    omega (
      arith,
      length-append (map positive us) (negative v ∷ []),
      length-append (map positive ts) (negative v ∷ []),
      length-map us positive,
      length-map ts positive,
      length-append (map (λ u. negative u ∷ positive v ∷ []) us) (map (λ u. negative u ∷ positive v ∷ []) ts),
      length-map us (λ u. negative u ∷ positive v ∷ []),
      length-map ts (λ u. negative u ∷ positive v ∷ []),
    )

module _ (z : Puzzle) where
  by_column_lem : (m : ℕ) (f : ℕ → ℕ → List Clause) → ((x y : ℕ) → length (f x y) ≡ m) → length (by_column z f) ≡ width z * height z * m
  unfolding by_column
  by_column_lem m f h =
      each_length (width z) (height z * m) _ (λ x. each_length (height z) m _ (λ y. h x y)) ∙ sym (mul_assoc (width z) (height z) m)

  by_column_has : (m : ℕ) (f : ℕ → ℕ → List Clause) → ((x y : ℕ) → HasEach m (f x y)) → HasEach m (by_column z f)
  unfolding by_column
  by_column_has m f h = each_has m (width z) _ (λ x _. each_has m (height z) _ (λ y _. h x y))

  -- 9
  pub cells_point : length (point_once z) ≡ point_count z
  cells_point = by_column_lem _ _ (λ x y. once_length (cell_first z x y) (hues z))

  pub point_twos : HasEach 2 (point_once z)
  point_twos = by_column_has 2 _ (λ x y. once_twos (cell_first z x y) (hues z))

  -- 7
  pub cells_color : length (of_cells z Color) ≡ color_count z
  cells_color =
      by_column_lem (hues z * 2) _ (λ x y. each_length (hues z) 2 (of_color z Color x y) (λ r. two x y r))
      ∙ omega (arith, mul_assoc (width z * height z) (hues z) 2, mul_comm (width z * height z * hues z) 2)
    where
      two : (x y r : ℕ) → length (of_color z Color x y r) ≡ 2
      two x y r = unfold of_color ruled in refl

  -- 8
  pub space_twos : HasEach 2 (of_cells z Space)
  unfolding of_color ruled
  space_twos =
      by_column_has 2 _ (λ x y. each_has 2 (hues z) _ (λ r _.
      append_has 2 _ _ (map_has 2 _ (λ u. refl) (covering (line_at z x) (hue z r) y)) (map_has 2 _ (λ u. refl) (covering (line_at z (width z + y)) (hue z r) x))))

  -- the literals of 7: its clause count plus the count of 8
  pub color_literals : literals (of_cells z Color) ≡ length (of_cells z Color) + length (of_cells z Space)
  unfolding by_column
  color_literals =
      each_more (width z) _ _ (λ x _. each_more (height z) _ _ (λ y _. each_more (hues z) _ _ (λ r _. color x y r)))
    where
      color : (x y r : ℕ) → literals (of_color z Color x y r) ≡ length (of_color z Color x y r) + length (of_color z Space x y r)
      color x y r = unfold of_color in more (cell_variable z x y r) (covering (line_at z x) (hue z r) y) (covering (line_at z (width z + y)) (hue z r) x)
