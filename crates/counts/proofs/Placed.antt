-- Families 1 to 6: their clauses and literals are as many as document 01's formulas say.
use mathlib.Core.Path.{◌≡◌, refl, ◌∙◌}
use mathlib.Core.Bool.{cond}
use mathlib.Core.List.{[], ◌∷◌}
use Prim.Native.Nat.{ℕ, zero, suc, ◌+◌, ◌-◌, ◌*◌, ◌/◌, ◌≤◌, ◌<◌}
use native.Mathlib.Omega.{arith}
use native.Mathlib.Nat.{add-zero, add-suc}
use lib.Dec.{leb}
use lib.ListN.{length}
use borrow.Author.Tests.{le-leb, lt-leb}
use Rattle.lists.specs.Each.{each, tab, when, pairs, product, sum, sum_pairs}
use Rattle.lists.proofs.Eaches.{length_tab}
use Rattle.lists.proofs.Sums.{sum_same, sum_constant, sum_plus, length_each, length_when, length_pairs, length_product}
use Rattle.sections.specs.Sections.{not_both, at_most_one, literals}
use Rattle.sections.proofs.ClauseLists.{literals_append, literals_each}
use Rattle.sections.proofs.Rows.{least_length}
use Rattle.lines.specs.Clue.{gap}
use Rattle.lines.specs.Arrangement.{at, clash, distance}
use Rattle.lines.proofs.Packing.{packed_length}
use Rattle.puzzles.specs.Puzzle.{Puzzle, lines, clue_at}
use Rattle.puzzles.specs.Firsts.{first_at, positions_at}
use Rattle.puzzles.specs.Good.{Good}
use Rattle.numbering.specs.Variables.{Line, line_at, many, placed_at, first_of, variable}
use Rattle.numbering.specs.Tables.{Sound}
use Rattle.numbering.proofs.Bounds.{line_sound}
use Rattle.numbering.proofs.SoundLines.{sound_meets}
use Rattle.placement.specs.Placement.{block_positions, block_once, non_overlap, ruled, of_lines}
use Rattle.placement.specs.declared.rule.Rule.{Rule}
use Rattle.placement.specs.declared.rule.Rule.TheVariants.{Positions, Once, Overlap}
use Rattle.counts.specs.Formulas.{once_in, overlap_pair, overlap_at, overlap_in, measured, over_lines}
use Rattle.counts.specs.declared.measure.Measure.{Measure}
use Rattle.counts.specs.declared.measure.Measure.TheVariants as M
use Rattle.counts.specs.declared.measure.Measure.TheVariants.{Blocks}
use Rattle.counts.proofs.Triangles.{pairs_count, triangle_count}
use Rattle.counts.proofs.Literals.{HasEach, one_has, each_has, when_has}

pub once_length : (v n : ℕ) → length (at_most_one v n) ≡ n * (n - 1) / 2
unfolding at_most_one
once_length v n = length_pairs n _ ∙ pairs_count n

-- what counts the clauses of a rule
abbrev pub measure : Rule → Measure
measure Positions = Blocks
measure Once = M.Once
measure Overlap = M.Overlap

-- the j below p that are d or more behind i
behind : (d i p : ℕ) → 0 < d → i < p → sum p (λ j. cond (leb (j + d) i) 1 0) ≡ i + 1 - d
behind d i p h l =
    let m = i + 1 - d in
    let e : p ≡ m + (p - m) = omega arith in
    let low : sum m (λ j. cond (leb (j + d) i) 1 0) ≡ sum m (λ j. 1) = sum_same m _ _ (λ j k. rw (le-leb (j + d) i (omega arith))) in
    let high : sum (p - m) (λ j. cond (leb (m + j + d) i) 1 0) ≡ sum (p - m) (λ j. 0) = sum_same (p - m) _ _ (λ j k. rw (lt-leb (m + j + d) i (omega arith))) in
    rw e (omega (arith, sum_plus m (p - m) (λ j. cond (leb (j + d) i) 1 0), low, high, sum_constant m 1, sum_constant (p - m) 0))

module _ {L : Line} (S : Sound L) where
  positions_length : length (block_positions L) ≡ many L
  unfolding block_positions
  positions_length = length_tab (many L) _

  line_once : length (block_once L) ≡ once_in L
  unfolding block_once once_in
  line_once = length_each (many L) _ ∙ sum_same (many L) _ _ (λ b h. once_length (first_of L b) L.positions)

  -- of one block pair
  pair_length : (a b : ℕ) → a < b → b < many L
      → length (product L.positions (λ i j. when (clash gap (placed_at L a i) (placed_at L b j)) (not_both (variable L a i) (variable L b j) ∷ [])))
      ≡ (L.positions - distance gap (at L.runs a) (at L.runs b)) * (L.positions - distance gap (at L.runs a) (at L.runs b) + 1) / 2
  pair_length a b h l =
      let d = distance gap (at L.runs a) (at L.runs b) in
      length_product L.positions _
      ∙ sum_same L.positions _ (λ i. i + 1 - d) (λ i k.
      sum_same L.positions _ (λ j. cond (leb (j + d) i) 1 0) (λ j m. length_when (clash gap (placed_at L a i) (placed_at L b j)) _ ∙ rw ((sound_meets S a b h l).meets i j))
      ∙ behind d i L.positions (sound_meets S a b h l).some k)
      ∙ triangle_count d (sound_meets S a b h l).some L.positions

  overlap_length : length (non_overlap L) ≡ overlap_in L
  unfolding non_overlap overlap_in overlap_at overlap_pair sum_pairs
  overlap_length =
      length_pairs (many L) _ ∙ sum_same (many L) _ _ (λ a h. sum_same (many L - suc a) _ _ (λ j l. pair_length a (suc a + j) (omega arith) (omega arith)))

  line_length : (rule : Rule) → length (ruled rule L) ≡ measured (measure rule) L
  unfolding ruled measured
  line_length Positions = positions_length
  line_length Once = line_once
  line_length Overlap = overlap_length

-- 1 to 6
pub lines_length : (z : Puzzle) → Good z → (rule : Rule) (l n : ℕ) → l + n ≤ lines z → length (of_lines z rule l n) ≡ over_lines z (measure rule) l n
unfolding of_lines over_lines
lines_length z G rule l n h = length_each n _ ∙ sum_same n _ _ (λ k i. line_length (line_sound z G (l + k) (omega arith)) rule)

-- ---- literals

pub once_twos : (v n : ℕ) → HasEach 2 (at_most_one v n)
unfolding at_most_one pairs
once_twos v n = each_has 2 n _ (λ i _. each_has 2 (n - suc i) _ (λ j _. one_has 2 _ refl))

overlap_twos : (L : Line) → HasEach 2 (non_overlap L)
unfolding non_overlap pairs product
overlap_twos L =
    each_has 2 (many L) _ (λ a _. each_has 2 (many L - suc a) _ (λ b _.
    each_has 2 L.positions _ (λ i _. each_has 2 L.positions _ (λ j _. when_has 2 (clash gap (placed_at L a i) (placed_at L (suc a + b) j)) _ refl))))

module _ (z : Puzzle) (l n : ℕ) where
  -- 3 to 6: two in each clause
  pub lines_once : HasEach 2 (of_lines z Once l n)
  unfolding of_lines ruled block_once
  lines_once = each_has 2 n _ (λ k _. each_has 2 (many (line_at z (l + k))) _ (λ b _. once_twos _ _))

  pub lines_overlap : HasEach 2 (of_lines z Overlap l n)
  unfolding of_lines ruled
  lines_overlap = each_has 2 n _ (λ k _. overlap_twos (line_at z (l + k)))

-- 1 and 2: one for each variable of the lines
line_variables : (L : Line) → literals (block_positions L) ≡ many L * L.positions
unfolding block_positions tab literals
line_variables L =
    literals_each (many L) _
    ∙ sum_same (many L) _ (λ b. L.positions) (λ b _. omega (arith, least_length (first_of L b) L.positions))
    ∙ sum_constant (many L) L.positions

pub lines_variables : (z : Puzzle) (l n : ℕ) → first_at z l + literals (of_lines z Positions l n) ≡ first_at z (l + n)
unfolding of_lines ruled each first_at
lines_variables z l zero = rw (add-zero l) (unfold literals in add-zero (first_at z l))
lines_variables z l (suc n) =
    rw (add-suc l n)
    (omega (arith, lines_variables z l n, literals_append (of_lines z Positions l n) (block_positions (line_at z (l + n))), line_variables (line_at z (l + n)), many_positions))
  where
    many_positions : many (line_at z (l + n)) * (line_at z (l + n)).positions ≡ length (clue_at z (l + n)) * positions_at z (l + n)
    many_positions = unfold line_at in rw (packed_length gap (clue_at z (l + n)))
