-- The loops that count what a line or the masks have.
use mathlib.Core.Path.{◌≡◌, sym, ◌∙◌}
use mathlib.Core.List.{List}
use Prim.Native.Nat.{ℕ, suc, ◌+◌, ◌-◌, ◌*◌, ◌/◌, ◌≤◌, ◌<◌}
use native.Mathlib.Omega.{arith}
use native.Mathlib.Nat.{mul-le-mul_right}
use lib.ListN.{length, get_or}
use Rattle.lists.proofs.Sums.{sum_at, sum_most, sum_constant, sum_times}
use Rattle.lines.specs.Clue.{gap}
use Rattle.lines.specs.Arrangement.{at, distance}
use Rattle.puzzles.specs.Puzzle.{Puzzle, lines}
use Rattle.puzzles.specs.Good.{Good}
use Rattle.puzzles.specs.Checks.{puzzle}
use Rattle.numbering.specs.Variables.{Line, line_at, many}
use Rattle.numbering.specs.Tables.{Ready, Sound}
use Rattle.numbering.proofs.SoundLines.{sound_shared, sound_some, sound_few, sound_sizes, sound_meets}
use Rattle.numbering.proofs.Bounds.{line_sound}
use Rattle.counts.specs.Formulas.{once_in, overlap_pair, overlap_at, cells_in, space_in, measured, units_by}
use Rattle.counts.specs.declared.measure.Measure.{Measure}
use Rattle.counts.specs.declared.measure.Measure.TheVariants.{Once, Space}
use Rattle.counts.proofs.Bounded.{pairs_most, pair_most, most, measured_most, units_most}
use Rattle.counts.proofs.Summing.{Summing, summing_first}

module _ {L : Line} (S : Sound L) where
  pub sizes_first : Summing (many L) 64 (λ b. (at L.runs b).size) 0 0
  sizes_first = summing_first (many L) 64 _ (λ b h. omega (arith, sum_at (many L) (λ b. (at L.runs b).size) b h, sound_sizes S))

  pub later_first : (a : ℕ) → Summing (many L - suc a) 2080 (λ j. overlap_pair L a (suc a + j)) 0 0
  unfolding overlap_pair
  later_first a = summing_first (many L - suc a) 2080 _ (λ j h. pair_most S _ (sound_meets S a (suc a + j) (omega arith) (omega arith)).some)

  pub overlap_first : Summing (many L) 133120 (overlap_at L) 0 0
  unfolding overlap_at
  overlap_first =
      summing_first (many L) 133120 _ (λ a h. omega (arith, sum_most (many L - suc a) 2080 _ (later_first a).small, mul-le-mul_right {m = many L - suc a} {n = 64} 2080 (omega (arith, sound_shared S, sound_some S))))

-- a turn of the loop over later blocks
pub pair_is : (L : Line) (a k : ℕ) {p d v : ℕ} → p ≡ L.positions → d ≡ distance gap (at L.runs a) (at L.runs (a + 1 + k)) → v ≡ (p - d) * (p - d + 1) / 2 → v ≡ overlap_pair L a (suc a + k)
unfolding overlap_pair
pair_is L a k e f g =
    let q : a + 1 + k ≡ suc a + k = omega arith in
    g ∙ rw (f, e, q)

-- what is counted of a line
module _ (L : Line) {n p : ℕ} (ne : n ≡ many L) (pe : p ≡ L.positions) where
  -- the numbers stay small
  pub line_small : Sound L → (0 < p) × (p ≤ 65) × (p * (p - 1) / 2 ≤ 2080) × (n * (p * (p - 1) / 2) ≤ 133120)
  line_small S =
      let short : p ≤ 65 = omega (arith, pe, sound_shared S) in
      let few : n ≤ 64 = omega (arith, ne, sound_few S) in
      let pairs = pairs_most p 65 short in
      (omega (arith, pe, sound_some S), short, omega (arith, pairs), omega (arith, pairs, mul-le-mul_right (p * (p - 1) / 2) few))

  pub once_are : {measure : Measure} → measure ≡ Once → n * (p * (p - 1) / 2) ≡ measured measure L
  unfolding measured once_in
  once_are e = rw (e, ne, pe) (sym (sum_constant (many L) _))

  module _ {s : ℕ} (se : s ≡ cells_in L) where
    pub space_small : Sound L → p * s ≤ 4160
    space_small S = omega (arith, se, sound_sizes S, mul-le-mul_right {m = p} {n = 65} s (omega (arith, line_small S)))

    pub space_are : {measure : Measure} → measure ≡ Space → p * s ≡ measured measure L
    unfolding measured space_in
    space_are e = rw (e, se, pe) (sym (sum_times (many L) L.positions (λ b. (at L.runs b).size)))

pub ready_few : (ws table : List ℕ) → Ready ws table → lines (puzzle ws) ≤ 128
ready_few ws table R = omega (arith, R.good.width_most, R.good.height_most)

pub lines_first : (z : Puzzle) → Good z → (m : Measure) (l n : ℕ) → l + n ≤ lines z → Summing n (most m) (λ k. measured m (line_at z (l + k))) 0 0
lines_first z G m l n h = summing_first n (most m) _ (λ k i. measured_most m (line_sound z G (l + k) (omega arith)))

pub units_first : (K : ℕ) (masks : List ℕ) → Summing (length masks) 31 (λ i. units_by K (get_or masks i 0)) 0 0
units_first K masks = summing_first (length masks) 31 _ (λ i _. units_most K (get_or masks i 0))
