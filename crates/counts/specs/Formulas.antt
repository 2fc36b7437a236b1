-- Document 01's formulas for the counts. `counts` proves each of them to be the length of its family.
use Rattle.std.specs.Prelude.{cond, ℕ, suc, ◌+◌, ◌-◌, ◌*◌, ◌/◌, length, get_or}
use Rattle.lists.specs.Each.{sum, sum_pairs}
use Rattle.bits.specs.Bits.{bit, solved}
use Rattle.lines.specs.Clue.{gap}
use Rattle.lines.specs.Arrangement.{at, distance}
use Rattle.puzzles.specs.Puzzle.{Puzzle, width, height, lines}
use Rattle.puzzles.specs.Checks.{colors}
use Rattle.numbering.specs.Variables.{Line, line_at, many, palette, hues}
use Rattle.counts.specs.declared.measure.Measure.{Measure}
use Rattle.counts.specs.declared.measure.Measure.TheVariants.{Blocks, Once, Overlap, Space}

-- 3 and 4: the sum of p(p-1)/2
unfoldable pub once_in : Line → ℕ
once_in L = sum (many L) (λ b. L.positions * (L.positions - 1) / 2)

-- 5 and 6: per pair n(n+1)/2 with n = max(0, p - d)
unfoldable pub overlap_pair : Line → ℕ → ℕ → ℕ
overlap_pair L a b =
    let n = L.positions - distance gap (at L.runs a) (at L.runs b) in
    n * (n + 1) / 2

unfoldable pub overlap_in : Line → ℕ
overlap_in L = sum_pairs (many L) (overlap_pair L)

-- those of block a with each later one
unfoldable pub overlap_at : Line → ℕ → ℕ
overlap_at L a = sum (many L - suc a) (λ j. overlap_pair L a (suc a + j))

-- the cells that its blocks have
abbrev pub cells_in : Line → ℕ
cells_in L = sum (many L) (λ b. (at L.runs b).size)

-- 8: the sum of p times size over all blocks
unfoldable pub space_in : Line → ℕ
space_in L = sum (many L) (λ b. L.positions * (at L.runs b).size)

unfoldable pub measured : Measure → Line → ℕ
-- 1 and 2: the blocks
measured Blocks L = many L
measured Once L = once_in L
measured Overlap L = overlap_in L
measured Space L = space_in L

-- over n lines from line l on
unfoldable pub over_lines : Puzzle → Measure → ℕ → ℕ → ℕ
over_lines z m l n = sum n (λ k. measured m (line_at z (l + k)))

-- 7: twice cells times colours
abbrev pub color_count : Puzzle → ℕ
color_count z = 2 * (width z * height z * hues z)

-- 8
abbrev pub space_count : Puzzle → ℕ
space_count z = over_lines z Space 0 (lines z)

-- 9: cells times k(k-1)/2, k colours
abbrev pub point_count : Puzzle → ℕ
point_count z = width z * height z * (hues z * (hues z - 1) / 2)

-- the colours of K that a mask excludes
unfoldable pub excluded : ℕ → ℕ → ℕ
excluded K mask = sum (length (palette K)) (λ r. cond (bit mask (get_or (palette K) r 0)) 0 1)

-- 10: per cell 1 if a solved colour, k if solved blank, else its excluded colours
unfoldable pub units_by : ℕ → ℕ → ℕ
units_by K mask = cond (solved mask) (cond (bit mask 0) (length (palette K)) 1) (excluded K mask)

abbrev pub unit_count : Puzzle → ℕ
unit_count z = sum (length z.masks) (λ i. units_by (colors z) (get_or z.masks i 0))
