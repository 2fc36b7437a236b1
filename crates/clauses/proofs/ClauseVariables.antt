-- Every literal of the ten families is v or -v, where v is a variable of the puzzle, 1 to V.
use mathlib.Core.Path.{refl}
use mathlib.Core.Bool.{Bool, true, false, not, cond}
use mathlib.Core.List.{List, [], ◌∷◌, map}
use Prim.Native.Nat.{ℕ, suc, ◌+◌, ◌-◌, ◌≤◌, ◌<◌}
use native.Mathlib.Omega.{arith}
use lib.IntN.{ℤ, pos}
use Rattle.lists.specs.Each.{when, pairs, product, Every}
use Rattle.lists.proofs.Everys.{These, every_more, every_one, every_append, every_each, every_tab, every_when, every_map, every_these}
use Rattle.bits.specs.Bits.{bit, solved}
use Rattle.literals.specs.Literals.{positive, negative}
use Rattle.literals.proofs.Readings.{made_literal}
use Rattle.literals.proofs.Signs.{variable_negative}
use Rattle.sections.specs.Sections.{Clause, not_both, at_least_one, at_most_one}
use Rattle.lines.specs.Clue.{gap}
use Rattle.lines.specs.Arrangement.{clash}
use Rattle.lines.proofs.Packing.{packed_length}
use Rattle.puzzles.specs.Puzzle.{Puzzle, width, height, lines, clue_at}
use Rattle.puzzles.specs.Good.{Good}
use Rattle.numbering.specs.Variables.{line_at, many, placed_at, first_of, variable, hues, hue, cell_first, cell_variable, variables}
use Rattle.numbering.specs.Names.{position, cell}
use Rattle.numbering.proofs.OneToOne.{numbered_within}
use Rattle.numbering.proofs.Bounds.{variables_most}
use Rattle.placement.specs.Placement.{block_positions, block_once, non_overlap, ruled, of_lines, of_columns, of_rows}
use Rattle.placement.specs.declared.rule.Rule.{Rule}
use Rattle.placement.specs.declared.rule.Rule.TheVariants.{Positions, Once, Overlap}
use Rattle.cells.specs.Cells as C
use Rattle.cells.specs.Cells.{covering, of_color, by_column, of_cells, point_once, precomputed, precomputed_cells}
use Rattle.cells.specs.declared.rule.Rule as D
use Rattle.cells.specs.declared.rule.Rule.TheVariants.{Color, Space}
use Rattle.cells.proofs.CoveringPositions.{covering_every}
use Rattle.counts.specs.Families.{families}
use Rattle.formulas.proofs.Readers.{IsLiteral, FineSection}

-- ---- clauses of the variables of a puzzle

module _ (z : Puzzle) (G : Good z) where
  -- a variable of it
  abbrev Of : ℕ → Type 0
  Of v = (0 < v) × (v ≤ variables z)

  abbrev Fine : Clause → Type 0
  Fine = Every (pos 0) (IsLiteral (variables z))

  abbrev FineAll : List Clause → Type 0
  FineAll = Every [] Fine

  positive_fine : (v : ℕ) → Of v → IsLiteral (variables z) (positive v)
  positive_fine v o = made_literal (variables z) (positive v) refl (record { least = o.0; most = omega (arith, o.1, variables_most z G) }) o.1

  negative_fine : (v : ℕ) → Of v → IsLiteral (variables z) (negative v)
  negative_fine v o = made_literal (variables z) (negative v) (variable_negative v) (record { least = o.0; most = omega (arith, o.1, variables_most z G) }) o.1

  one_fine : (c : Clause) → Fine c → FineAll (c ∷ [])
  one_fine c f = every_one [] Fine c f

  unit_fine : (l : ℤ) → IsLiteral (variables z) l → Fine (l ∷ [])
  unit_fine l f = every_one (pos 0) (IsLiteral (variables z)) l f

  two_fine : (k l : ℤ) → IsLiteral (variables z) k → IsLiteral (variables z) l → Fine (k ∷ l ∷ [])
  two_fine k l f g = every_more (pos 0) (IsLiteral (variables z)) k (l ∷ []) f (unit_fine l g)

  both_fine : (u v : ℕ) → Of u → Of v → FineAll (not_both u v ∷ [])
  both_fine u v o p = one_fine _ (two_fine (negative u) (negative v) (negative_fine u o) (negative_fine v p))

  least_fine : (v n : ℕ) → ((i : ℕ) → i < n → Of (v + i)) → Fine (at_least_one v n)
  unfolding at_least_one
  least_fine v n o = every_tab (pos 0) (IsLiteral (variables z)) n _ (λ i h. positive_fine (v + i) (o i h))

  once_fine : (v n : ℕ) → ((i : ℕ) → i < n → Of (v + i)) → FineAll (at_most_one v n)
  unfolding at_most_one pairs
  once_fine v n o =
      every_each [] Fine n _ (λ i h. every_each [] Fine (n - suc i) _ (λ j l. both_fine (v + i) (v + (suc i + j)) (o i h) (o (suc i + j) (omega arith))))

  -- ---- families 1 to 6

  module _ (l : ℕ) (h : l < lines z) where
    position_of : (b i : ℕ) → b < many (line_at z l) → i < (line_at z l).positions → Of (variable (line_at z l) b i)
    unfolding line_at
    position_of b i k m = numbered_within z (position l b i) (h, omega (arith, packed_length gap (clue_at z l)), m)

    ruled_fine : (rule : Rule) → FineAll (ruled rule (line_at z l))
    unfolding ruled block_positions block_once non_overlap pairs product
    ruled_fine Positions = every_tab [] Fine (many (line_at z l)) _ (λ b k. least_fine (first_of (line_at z l) b) (line_at z l).positions (λ i m. position_of b i k m))
    ruled_fine Once = every_each [] Fine (many (line_at z l)) _ (λ b k. once_fine (first_of (line_at z l) b) (line_at z l).positions (λ i m. position_of b i k m))
    ruled_fine Overlap =
        let L = line_at z l in
        every_each [] Fine (many L) _ (λ a k. every_each [] Fine (many L - suc a) _ (λ b m. every_each [] Fine L.positions _ (λ i p. every_each [] Fine L.positions _ (λ j q.
        every_when [] Fine (clash gap (placed_at L a i) (placed_at L (suc a + b) j)) _
        (both_fine (variable L a i) (variable L (suc a + b) j) (position_of a i k p) (position_of (suc a + b) j (omega arith) q))))))

  lines_fine : (rule : Rule) (l n : ℕ) → l + n ≤ lines z → FineAll (of_lines z rule l n)
  unfolding of_lines
  lines_fine rule l n h = every_each [] Fine n _ (λ k i. ruled_fine (l + k) (omega arith) rule)

  -- ---- families 7 to 10

  cover_fine : (rule : D.Rule) (v : ℕ) (us : List ℕ) → Of v → Every 0 Of us → FineAll (C.ruled rule v us)
  unfolding C.ruled
  cover_fine Color v us o h =
      one_fine _ (every_append (pos 0) (IsLiteral (variables z)) (map positive us) (negative v ∷ [])
      (every_map (pos 0) (IsLiteral (variables z)) 0 positive us (λ i k. positive_fine _ (h i k))) (unit_fine (negative v) (negative_fine v o)))
  cover_fine Space v us o h =
      every_map [] Fine 0 (λ u. negative u ∷ positive v ∷ []) us (λ i k. two_fine _ _ (negative_fine _ (h i k)) (positive_fine v o))

  cell_of : (x y r : ℕ) → x < width z → y < height z → r < hues z → Of (cell_variable z x y r)
  cell_of x y r h k m = numbered_within z (cell x y r) (h, k, m)

  covering_of : (l c t : ℕ) → l < lines z → Every 0 Of (covering (line_at z l) c t)
  covering_of l c t h = covering_every Of (line_at z l) c t (position_of l h)

  cells_fine : (rule : D.Rule) → FineAll (of_cells z rule)
  unfolding by_column of_color
  cells_fine rule =
      every_each [] Fine (width z) _ (λ x i. every_each [] Fine (height z) _ (λ y j. every_each [] Fine (hues z) _ (λ r k.
      let v = cell_variable z x y r in
      let us = covering (line_at z x) (hue z r) y in
      let vs = covering (line_at z (width z + y)) (hue z r) x in
      every_append [] Fine (C.ruled rule v us) (C.ruled rule v vs)
      (cover_fine rule v us (cell_of x y r i j k) (covering_of x (hue z r) y (omega arith)))
      (cover_fine rule v vs (cell_of x y r i j k) (covering_of (width z + y) (hue z r) x (omega arith))))))

  points_fine : FineAll (point_once z)
  unfolding by_column
  points_fine = every_each [] Fine (width z) _ (λ x i. every_each [] Fine (height z) _ (λ y j. once_fine (cell_first z x y) (hues z) (λ r k. cell_of x y r i j k)))

  units_fine : FineAll (precomputed_cells z)
  unfolding precomputed_cells precomputed
  units_fine =
      every_each [] Fine (height z) _ (λ y j. every_each [] Fine (width z) _ (λ x i. every_each [] Fine (hues z) _ (λ r k.
      unit (solved (C.mask_at z x y)) (bit (C.mask_at z x y) 0) (bit (C.mask_at z x y) (hue z r)) (cell_variable z x y r) (cell_of x y r i j k))))
    where
      unit : (s b m : Bool) (v : ℕ) → Of v → FineAll (cond s (cond b ((negative v ∷ []) ∷ []) (when m ((positive v ∷ []) ∷ []))) (when (not m) ((negative v ∷ []) ∷ [])))
      unit true true m v o = one_fine _ (unit_fine _ (negative_fine v o))
      unit true false m v o = every_when [] Fine m _ (one_fine _ (unit_fine _ (positive_fine v o)))
      unit false b m v o = every_when [] Fine (not m) _ (one_fine _ (unit_fine _ (negative_fine v o)))

  -- ---- all ten

  pub families_fine : Every [] (FineSection (variables z)) (families z)
  unfolding families These
  families_fine =
      let columns : (rule : Rule) → FineAll (of_columns z rule) = λ rule. lines_fine rule 0 (width z) (omega arith) in
      let rows : (rule : Rule) → FineAll (of_rows z rule) = λ rule. lines_fine rule (width z) (height z) (omega arith) in
      every_these [] FineAll (families z)
      (columns Positions, (rows Positions, (columns Once, (rows Once, (columns Overlap, (rows Overlap, (cells_fine Color, (cells_fine Space, (points_fine, (units_fine, tt))))))))))
