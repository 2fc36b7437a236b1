-- The counts of an accepted puzzle are small: every one of them fits an i32.
use mathlib.Core.Path.{◌≡◌, ap, ◌∙◌}
use mathlib.Core.Bool.{Bool, true, false, cond}
use Prim.Native.Nat.{ℕ, suc, ◌+◌, ◌-◌, ◌*◌, ◌/◌, ◌≤◌, ◌<◌}
use native.Mathlib.Omega.{arith}
use native.Mathlib.Decide.{dec_lt}
use native.Mathlib.Nat.{mul-le-mul_right, mul-le-mul_left, mul_comm, mul-one}
use lib.ListN.{length, get_or}
use Rattle.lists.specs.Each.{sum, sum_pairs}
use Rattle.lists.proofs.Sums.{sum_below, sum_most, sum_times, sum_constant}
use Rattle.bits.specs.Bits.{bit, solved}
use Rattle.lines.specs.Arrangement.{at}
use Rattle.puzzles.specs.Puzzle.{Puzzle, width, height, lines}
use Rattle.puzzles.specs.Checks.{colors}
use Rattle.puzzles.specs.Good.{Good}
use Rattle.numbering.specs.Variables.{Line, many, hues, palette}
use Rattle.numbering.specs.Tables.{Sound}
use Rattle.numbering.proofs.SoundLines.{sound_shared, sound_some, sound_meets, sound_sizes}
use Rattle.numbering.proofs.Bounds.{line_sound, hues_most, cells_most}
use Rattle.numbering.proofs.Palettes.{palette_most}
use Rattle.counts.specs.Formulas.{once_in, overlap_pair, overlap_in, space_in, measured, over_lines, point_count, excluded, units_by, unit_count}
use Rattle.counts.specs.declared.measure.Measure.{Measure}
use Rattle.counts.specs.declared.measure.Measure.TheVariants.{Blocks, Once, Overlap, Space}
use Rattle.counts.proofs.Triangles.{pairs_count}

-- n(n-1)/2 grows with n
pub pairs_most : (n m : ℕ) → n ≤ m → n * (n - 1) / 2 ≤ m * (m - 1) / 2
pairs_most n m h = omega (arith, mul-le-mul_right (n - 1) h, mul-le-mul_left m less)
  where
    less : n - 1 ≤ m - 1
    less = omega arith

-- a sum over pairs, none over m
pairs_below : (n m : ℕ) (f : ℕ → ℕ → ℕ) → ((a b : ℕ) → a < b → b < n → f a b ≤ m) → sum_pairs n f ≤ m * (n * (n - 1) / 2)
unfolding sum_pairs
pairs_below n m f h =
    let below : sum n (λ a. sum (n - suc a) (λ j. f a (suc a + j))) ≤ sum n (λ a. m * sum (n - suc a) (λ j. 1)) =
    sum_below n _ _ (λ a i. omega (arith, sum_most (n - suc a) m (λ j. f a (suc a + j)) (λ j k. h a (suc a + j) (omega arith) (omega arith)), sum_constant (n - suc a) 1, mul_comm m (n - suc a), ap (λ (k : ℕ). m * k) (sum_constant (n - suc a) 1 ∙ mul-one (n - suc a)))) in
    omega (arith, below, sum_times n m (λ a. sum (n - suc a) (λ j. 1)), ap (λ (k : ℕ). m * k) (unfold sum_pairs in pairs_count n))

-- of a line with at most m positions
module _ {L : Line} (S : Sound L) (m : ℕ) (most : L.positions ≤ m) where
  pair_below : (d : ℕ) → 0 < d → (L.positions - d) * (L.positions - d + 1) / 2 ≤ m * (m - 1) / 2
  pair_below d h =
      let n = L.positions - d + 1 in
      let e : n - 1 ≡ L.positions - d = omega arith in
      omega (arith, rw e at (pairs_most n m (omega (arith, sound_some S))), mul_comm (L.positions - d) (L.positions - d + 1))

  overlap_below : overlap_in L ≤ m * (m - 1) / 2 * (many L * (many L - 1) / 2)
  unfolding overlap_in overlap_pair
  overlap_below = pairs_below (many L) (m * (m - 1) / 2) _ (λ a b h l. pair_below _ (sound_meets S a b h l).some)

module _ {L : Line} (S : Sound L) where
  once_most : once_in L ≤ 133120
  unfolding once_in
  once_most =
      omega (arith, sum_most (many L) 2080 (λ b. L.positions * (L.positions - 1) / 2) (λ b _. omega (arith, pairs_most L.positions 65 (omega (arith, sound_shared S)))), mul-le-mul_right 2080 few)
    where
      few : many L ≤ 64
      few = omega (arith, sound_shared S, sound_some S)

  -- of a block pair
  pub pair_most : (d : ℕ) → 0 < d → (L.positions - d) * (L.positions - d + 1) / 2 ≤ 2080
  pair_most d h = omega (arith, pair_below S 65 (omega (arith, sound_shared S)) d h)

  -- many blocks have few positions
  overlap_most : overlap_in L ≤ 1031680
  overlap_most = elim (dec_lt (many L) 33) [
    | yes h ↦ omega (arith, overlap_below S 65 (omega (arith, sound_shared S)), mul-le-mul_left 2080 (pairs_most (many L) 32 (omega arith)))
    | no h ↦ omega (arith, overlap_below S 32 (omega (arith, sound_shared S)), mul-le-mul_left 496 (pairs_most (many L) 64 (omega (arith, sound_shared S, sound_some S))))
  ]

  pub space_most : space_in L ≤ 4160
  unfolding space_in
  space_most =
      omega (arith, sum_times (many L) L.positions (λ b. (at L.runs b).size), mul-le-mul_left L.positions (sound_sizes S), mul-le-mul_right 64 short)
    where
      short : L.positions ≤ 65
      short = omega (arith, sound_shared S)

-- what a line counts at most
abbrev pub most : Measure → ℕ
most Blocks = 64
most Once = 133120
most Overlap = 1031680
most Space = 4160

-- every count of a line is small
pub most_most : (m : Measure) → most m ≤ 1031680
most_most Blocks = omega arith
most_most Once = omega arith
most_most Overlap = omega arith
most_most Space = omega arith

pub measured_most : (m : Measure) {L : Line} → Sound L → measured m L ≤ most m
unfolding measured
measured_most Blocks S = omega (arith, sound_shared S, sound_some S)
measured_most Once S = once_most S
measured_most Overlap S = overlap_most S
measured_most Space S = space_most S

pub units_most : (K mask : ℕ) → units_by K mask ≤ 31
unfolding units_by excluded
units_most K mask = cases (solved mask) (bit mask 0)
  where
    out : (b : Bool) → cond b 0 1 ≤ 1
    out true = omega arith
    out false = omega arith

    cases : (s b : Bool) → cond s (cond b (length (palette K)) 1) (sum (length (palette K)) (λ r. cond (bit mask (get_or (palette K) r 0)) 0 1)) ≤ 31
    cases true true = palette_most K
    cases true false = omega arith
    cases false b = omega (arith, sum_most (length (palette K)) 1 _ (λ r _. out (bit mask (get_or (palette K) r 0))), palette_most K, mul-one (length (palette K)))

module _ (z : Puzzle) (G : Good z) where
  pub lines_most : (m : Measure) (l n : ℕ) → l + n ≤ lines z → over_lines z m l n ≤ n * most m
  unfolding over_lines
  lines_most m l n h = sum_most n (most m) _ (λ k i. measured_most m (line_sound z G (l + k) (omega arith)))

  pub unit_most : unit_count z ≤ 126976
  unit_most = omega (arith, sum_most (length z.masks) 31 _ (λ i _. units_most (colors z) (get_or z.masks i 0)), G.area, cells_most z G)

  pub point_most : point_count z ≤ 1904640
  point_most = omega (arith, mul-le-mul_left (width z * height z) (pairs_most (hues z) 31 (hues_most z)), mul-le-mul_right 465 (cells_most z G))
