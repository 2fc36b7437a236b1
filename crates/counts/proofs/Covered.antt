-- Family 8: per position as many clauses as its block has cells, whatever order the cells are taken in.
use mathlib.Core.Path.{◌≡◌, refl, sym, ap, ◌∙◌}
use mathlib.Core.Bool.{Bool, true, false, cond}
use mathlib.Core.List.{[], ◌∷◌}
use Prim.Native.Nat.{ℕ, ◌+◌, ◌≤◌, ◌<◌}
use native.Mathlib.Omega.{arith}
use lib.Dec.{eqb}
use lib.ListN.{length, length-append, length-map}
use borrow.Author.Tests.{eq-eqb, ne_eqb}
use Rattle.lists.specs.Each.{each, when, sum}
use Rattle.lists.proofs.Sums.{sum_same, sum_both, sum_swap, sum_plus, sum_constant, length_each, length_when}
use Rattle.lines.specs.Clue.{end, gap}
use Rattle.lines.specs.Arrangement.{at, block_at, covers}
use Rattle.lines.proofs.Packing.{base_gap, packed_length, packed_color}
use Rattle.lines.proofs.Moving.{moved_within}
use Rattle.lines.proofs.Covering.{covers_cells}
use Rattle.puzzles.specs.Puzzle.{Puzzle, width, height, lines, clue_at, length_at}
use Rattle.puzzles.specs.Checks.{colors}
use Rattle.puzzles.specs.Good.{Good}
use Rattle.puzzles.proofs.ColorSets.{good_known}
use Rattle.puzzles.proofs.Lines.{length_column, length_row}
use Rattle.numbering.specs.Variables.{Line, line_at, many, placed_at, variable, hues, hue}
use Rattle.cells.specs.Cells.{covering, ruled, of_color, by_column, of_cells}
use Rattle.cells.specs.declared.rule.Rule.TheVariants.{Space}
use Rattle.counts.specs.Formulas.{space_in, measured, over_lines, space_count}
use Rattle.counts.proofs.OverColors.{over_one}

-- how many positions of block b cover cell t
covered : Line → ℕ → ℕ → ℕ
covered L b t = sum L.positions (λ i. cond (covers (placed_at L b i) t) 1 0)

covering_length : (L : Line) (c t : ℕ) → length (covering L c t) ≡ sum (many L) (λ b. cond (eqb (at L.runs b).color c) (covered L b t) 0)
unfolding covering covered
covering_length L c t = length_each (many L) _ ∙ sum_same (many L) _ _ (λ b h. block (eqb (at L.runs b).color c) b)
  where
    block : (x : Bool) (b : ℕ) → length (when x (each L.positions (λ i. when (covers (placed_at L b i) t) (variable L b i ∷ [])))) ≡ cond x (sum L.positions (λ i. cond (covers (placed_at L b i) t) 1 0)) 0
    block true b = length_each L.positions _ ∙ sum_same L.positions _ _ (λ i h. length_when (covers (placed_at L b i) t) (variable L b i))
    block false b = refl

module _ (z : Puzzle) (G : Good z) (l : ℕ) (h : l < lines z) where
  abbrev L : Line
  L = line_at z l

  many_is : many L ≡ length (clue_at z l)
  unfolding line_at
  many_is = packed_length gap (clue_at z l)

  -- over all colours: every block is of one of them
  cell_covering : (t : ℕ) → sum (hues z) (λ r. length (covering L (hue z r) t)) ≡ sum (many L) (λ b. covered L b t)
  cell_covering t =
      sum_same (hues z) _ _ (λ r _. covering_length L (hue z r) t)
      ∙ sum_swap (hues z) (many L) (λ r b. cond (eqb (at L.runs b).color (hue z r)) (covered L b t) 0)
      ∙ sum_same (many L) _ _ (λ b k. own b k)
    where
      own : (b : ℕ) → b < many L → sum (hues z) (λ r. cond (eqb (at L.runs b).color (hue z r)) (covered L b t) 0) ≡ covered L b t
      own b k =
          let c = (at L.runs b).color in
          let k' : b < length (clue_at z l) = omega (arith, many_is) in
          let e : c ≡ (block_at (clue_at z l) b).color = unfold line_at in packed_color gap (clue_at z l) b in
          over_one (λ d. cond (eqb c d) (covered L b t) 0) (colors z) c (omega (arith, e, (G.proper l h).colors b k')) (omega (arith, e, G.colors_most l b h k'))
          (rw e ((good_known z G).blocks l b h k')) (λ d n. rw (ne_eqb c d (λ q. n (sym q))))
          ∙ rw (eq-eqb c c refl)

  inside : (b : ℕ) → b < length (clue_at z l) → (i : ℕ) → i < L.positions → end (placed_at L b i) ≤ length_at z l
  unfolding line_at
  inside b k i m = moved_within base_gap (G.proper l h) (length_at z l) (G.fits l h) i m b k

  -- over all cells of the line
  pub line_covering : sum (length_at z l) (λ t. sum (hues z) (λ r. length (covering L (hue z r) t))) ≡ space_in L
  unfolding covered space_in
  line_covering =
      sum_same (length_at z l) _ _ (λ t _. cell_covering t)
      ∙ sum_swap (length_at z l) (many L) (λ t b. covered L b t)
      ∙ sum_same (many L) _ _ (λ b k.
      sum_swap (length_at z l) L.positions (λ t i. cond (covers (placed_at L b i) t) 1 0)
      ∙ sum_same L.positions _ (λ i. (at L.runs b).size) (λ i m. covers_cells (length_at z l) (placed_at L b i) (inside b (omega (arith, many_is)) i m))
      ∙ sum_constant L.positions (at L.runs b).size)

-- ---- over the cells of the board

-- clauses of a colour: one for each position that covers the cell, in the column and in the row
space_length : (z : Puzzle) (x y r : ℕ) → length (of_color z Space x y r) ≡ length (covering (line_at z x) (hue z r) y) + length (covering (line_at z (width z + y)) (hue z r) x)
unfolding of_color ruled
space_length z x y r = rw (length-append, length-map, length-map)

pub cells_space : (z : Puzzle) → Good z → length (of_cells z Space) ≡ space_count z
unfolding by_column over_lines measured
cells_space z G =
    let w = width z in
    let h = height z in
    let col : ℕ → ℕ → ℕ = λ x y. sum (hues z) (λ r. length (covering (line_at z x) (hue z r) y)) in
    let row : ℕ → ℕ → ℕ = λ x y. sum (hues z) (λ r. length (covering (line_at z (w + y)) (hue z r) x)) in
    let cell : (x y : ℕ) → length (each (hues z) (of_color z Space x y)) ≡ col x y + row x y = λ x y.
    length_each (hues z) _ ∙ sum_same (hues z) _ _ (λ r _. space_length z x y r) ∙ sum_both (hues z) _ _ in
    let columns : sum w (λ x. sum h (λ y. col x y)) ≡ sum w (λ x. space_in (line_at z x)) = sum_same w _ _ (λ x k.
    ap (λ (n : ℕ). sum n (λ y. col x y)) (sym (length_column z x k)) ∙ line_covering z G x (omega arith)) in
    let rows : sum w (λ x. sum h (λ y. row x y)) ≡ sum h (λ y. space_in (line_at z (w + y))) = sum_swap w h row ∙ sum_same h _ _ (λ y k.
    ap (λ (n : ℕ). sum n (λ x. row x y)) (sym (length_row z y)) ∙ line_covering z G (w + y) (omega arith)) in
    length_each w _
    ∙ sum_same w _ (λ x. sum h (λ y. col x y) + sum h (λ y. row x y)) (λ x _. length_each h _ ∙ sum_same h _ _ (λ y _. cell x y) ∙ sum_both h (λ y. col x y) (λ y. row x y))
    ∙ sum_both w (λ x. sum h (λ y. col x y)) (λ x. sum h (λ y. row x y))
    ∙ rw (columns, rows) (omega (arith, sum_plus w h (λ l. space_in (line_at z l)), sum_same (w + h) (λ l. space_in (line_at z (0 + l))) (λ l. space_in (line_at z l)) (λ l _. ap (λ (m : ℕ). space_in (line_at z m)) (omega arith))))
