-- No clause of an accepted puzzle has more than 65 literals.
use mathlib.Core.Bool.{Bool, true, false, not, cond}
use mathlib.Core.List.{List, [], ◌∷◌, map}
use Prim.Native.Nat.{ℕ, suc, ◌+◌, ◌-◌, ◌≤◌}
use native.Mathlib.Omega.{arith}
use lib.ListN.{length, length-append, length-map}
use Rattle.lists.specs.Each.{when, pairs, product, Every}
use Rattle.lists.proofs.Everys.{These, every_one, every_append, every_each, every_tab, every_when, every_map, every_these, every_flat}
use Rattle.literals.specs.Literals.{positive, negative}
use Rattle.bits.specs.Bits.{bit, solved}
use Rattle.sections.specs.Sections.{Clause, at_most_one}
use Rattle.sections.proofs.Rows.{least_length}
use Rattle.lines.specs.Clue.{gap}
use Rattle.lines.specs.Arrangement.{clash}
use Rattle.puzzles.specs.Puzzle.{Puzzle, width, height, lines}
use Rattle.puzzles.specs.Good.{Good}
use Rattle.numbering.specs.Variables.{Line, line_at, many, placed_at, first_of, hues, hue, cell_variable}
use Rattle.numbering.specs.Tables.{Sound}
use Rattle.numbering.proofs.SoundLines.{sound_shared}
use Rattle.numbering.proofs.Bounds.{line_sound}
use Rattle.placement.specs.Placement.{block_positions, block_once, non_overlap, ruled, of_lines, of_columns, of_rows}
use Rattle.placement.specs.declared.rule.Rule.{Rule}
use Rattle.placement.specs.declared.rule.Rule.TheVariants.{Positions, Once, Overlap}
use Rattle.cells.specs.Cells as C
use Rattle.cells.specs.Cells.{covering, of_color, by_column, of_cells, point_once, precomputed, precomputed_cells}
use Rattle.cells.specs.declared.rule.Rule as D
use Rattle.cells.specs.declared.rule.Rule.TheVariants.{Color, Space}
use Rattle.cells.proofs.CoveringPositions.{covering_most}
use Rattle.counts.specs.Families.{families, clauses}

-- a clause of at most 65 literals
abbrev pub Few : Clause → Type 0
Few c = length c ≤ 65

abbrev pub Short : List Clause → Type 0
Short = Every [] Few

-- ---- families 1 to 6

once_short : (v n : ℕ) → Short (at_most_one v n)
unfolding at_most_one pairs
once_short v n = every_each [] Few n _ (λ i _. every_each [] Few (n - suc i) _ (λ j _. every_one [] Few _ (omega arith)))

ruled_short : {L : Line} → Sound L → (rule : Rule) → Short (ruled rule L)
unfolding ruled block_positions block_once non_overlap pairs product
ruled_short {L} S Positions = every_tab [] Few (many L) _ (λ b _. omega (arith, least_length (first_of L b) L.positions, sound_shared S))
ruled_short {L} S Once = every_each [] Few (many L) _ (λ b _. once_short (first_of L b) L.positions)
ruled_short {L} S Overlap =
    every_each [] Few (many L) _ (λ a _. every_each [] Few (many L - suc a) _ (λ b _. every_each [] Few L.positions _ (λ i _. every_each [] Few L.positions _ (λ j _.
    every_when [] Few (clash gap (placed_at L a i) (placed_at L (suc a + b) j)) _ (every_one [] Few _ (omega arith))))))

lines_short : (z : Puzzle) → Good z → (rule : Rule) (l n : ℕ) → l + n ≤ lines z → Short (of_lines z rule l n)
unfolding of_lines
lines_short z G rule l n h = every_each [] Few n _ (λ k i. ruled_short (line_sound z G (l + k) (omega arith)) rule)

-- ---- families 7 to 10

cover_short : (rule : D.Rule) (v : ℕ) (us : List ℕ) → length us ≤ 64 → Short (C.ruled rule v us)
unfolding C.ruled
cover_short Color v us h = every_one [] Few _ (omega (arith, length-append (map positive us) (negative v ∷ []), length-map us positive))
cover_short Space v us h = every_map [] Few 0 _ us (λ i k. omega arith)

module _ (z : Puzzle) where
  cells_short : Good z → (rule : D.Rule) → Short (of_cells z rule)
  unfolding by_column of_color
  cells_short G rule =
      every_each [] Few (width z) _ (λ x i. every_each [] Few (height z) _ (λ y j. every_each [] Few (hues z) _ (λ r _.
      let v = cell_variable z x y r in
      let us = covering (line_at z x) (hue z r) y in
      let vs = covering (line_at z (width z + y)) (hue z r) x in
      every_append [] Few (C.ruled rule v us) (C.ruled rule v vs)
      (cover_short rule v us (covering_most (line_sound z G x (omega arith)) (hue z r) y))
      (cover_short rule v vs (covering_most (line_sound z G (width z + y) (omega arith)) (hue z r) x)))))

  points_short : Short (point_once z)
  unfolding by_column
  points_short = every_each [] Few (width z) _ (λ x _. every_each [] Few (height z) _ (λ y _. once_short _ (hues z)))

  units_short : Short (precomputed_cells z)
  unfolding precomputed_cells precomputed
  units_short =
      every_each [] Few (height z) _ (λ y _. every_each [] Few (width z) _ (λ x _. every_each [] Few (hues z) _ (λ r _.
      unit (solved (C.mask_at z x y)) (bit (C.mask_at z x y) 0) (bit (C.mask_at z x y) (hue z r)) (cell_variable z x y r))))
    where
      unit : (s b m : Bool) (v : ℕ) → Short (cond s (cond b ((negative v ∷ []) ∷ []) (when m ((positive v ∷ []) ∷ []))) (when (not m) ((negative v ∷ []) ∷ [])))
      unit true true m v = every_one [] Few _ (omega arith)
      unit true false m v = every_when [] Few m _ (every_one [] Few _ (omega arith))
      unit false b m v = every_when [] Few (not m) _ (every_one [] Few _ (omega arith))

  -- ---- all ten

  pub clauses_short : Good z → Short (clauses z)
  unfolding families These
  clauses_short G =
      let columns : (rule : Rule) → Short (of_columns z rule) = λ rule. lines_short z G rule 0 (width z) (omega arith) in
      let rows : (rule : Rule) → Short (of_rows z rule) = λ rule. lines_short z G rule (width z) (height z) (omega arith) in
      every_flat [] Few (families z) (every_these [] Short (families z)
      (columns Positions, (rows Positions, (columns Once, (rows Once, (columns Overlap, (rows Overlap, (cells_short G Color, (cells_short G Space, (points_short, (units_short, tt)))))))))))
