-- What holds of a sound line: its numbers are small, its blocks stay inside, and two positions are in conflict by their distance.
use mathlib.Core.Path.{◌≡◌, refl, sym, ap, ◌∙◌}
use mathlib.Core.Bool.{false}
use mathlib.Core.List.{List}
use Prim.Native.Nat.{ℕ, ◌+◌, ◌*◌, ◌/◌, ◌≤◌, ◌<◌}
use native.Mathlib.Omega.{arith}
use lib.ListN.{length, get_or}
use Rattle.lists.specs.Each.{sum}
use Rattle.lists.proofs.Eaches.{length_tab, get_or_tab}
use Rattle.lists.proofs.Parts.{part_within}
use Rattle.lines.specs.Clue.{end, gap, min_space}
use Rattle.lines.specs.Arrangement.{at, clash, distance, Meets}
use Rattle.lines.proofs.Packing.{base_gap, packed_length, sizes_within, blocks_within}
use Rattle.lines.proofs.Moving.{positions_some, positions_space, moved_within, packed_clear, packed_meets}
use Rattle.tables.specs.Layout.{first_word, positions_word, start_word}
use Rattle.numbering.specs.Variables.{Line, many, placed_at, first_of}
use Rattle.numbering.specs.Tables.{line_of, Sound}

module _ {L : Line} (S : Sound L) where
  many_is : many L ≡ length S.clue
  many_is = ap length S.runs_are ∙ packed_length gap S.clue

  -- blocks and positions share the line
  pub sound_shared : many L + L.positions ≤ 65
  sound_shared =
      omega (arith, many_is, S.positions_are, S.short, blocks_within base_gap S.proper, positions_space gap S.cells S.clue S.fits)

  pub sound_some : 0 < L.positions
  sound_some = rw S.positions_are (positions_some gap S.cells S.clue)

  pub sound_few : many L ≤ 64
  sound_few = omega (arith, sound_shared, sound_some)

  -- the sizes of its blocks are within its cells
  pub sound_sizes : sum (many L) (λ b. (at L.runs b).size) ≤ 64
  sound_sizes = omega (arith, sizes, S.fits, S.short)
    where
      sizes : sum (many L) (λ b. (at L.runs b).size) ≤ min_space gap S.clue
      sizes = rw (many_is, S.runs_are) (sizes_within base_gap S.proper)

  module _ (b : ℕ) (h : b < many L) where
    below : b < length S.clue
    below = omega (arith, many_is)

    -- its variables
    pub sound_least : 0 < first_of L b
    sound_least = omega (arith, S.least)

    pub sound_most : first_of L b + L.positions ≤ 262145
    sound_most = omega (arith, part_within (many L) L.positions b h, S.most)

    -- a block at any of its positions is inside the line
    pub sound_within : (i : ℕ) → i < L.positions → end (placed_at L b i) ≤ 64
    sound_within i l = omega (arith, inside, S.short)
      where
        inside : end (placed_at L b i) ≤ S.cells
        inside = rw S.runs_are (moved_within base_gap S.proper S.cells S.fits i (rw S.positions_are at l) b below)

    pub sound_start : (at L.runs b).start ≤ 64
    sound_start = omega (arith, sound_within 0 sound_some)

  -- two of its blocks
  module _ (a b : ℕ) (h : a < b) (l : b < many L) where
    below' : b < length S.clue
    below' = omega (arith, many_is)

    pub sound_clear : clash gap (at L.runs a) (at L.runs b) ≡ false
    sound_clear = rw S.runs_are (packed_clear base_gap S.proper a b h below')

    pub sound_meets : Meets gap (at L.runs a) (at L.runs b) (distance gap (at L.runs a) (at L.runs b))
    sound_meets = rw S.runs_are (packed_meets base_gap S.proper a b h below')

-- ---- the words that hold a line

module _ (line clue : List ℕ) where
  pub of_many : many (line_of line clue) ≡ length clue / 2
  unfolding line_of
  of_many = length_tab (length clue / 2) _

  pub of_run : (b : ℕ) → b < many (line_of line clue) → at (line_of line clue).runs b ≡ record { start = get_or line (start_word b) 0; size = get_or clue (2 * b) 0; color = get_or clue (2 * b + 1) 0 }
  unfolding line_of
  of_run b h = get_or_tab (length clue / 2) _ _ b (omega (arith, of_many))

  module _ (b : ℕ) (h : b < many (line_of line clue)) where
    pub of_size : get_or clue (2 * b) 0 ≡ (at (line_of line clue).runs b).size
    of_size = sym (ap (λ r. r.size) (of_run b h))

  pub of_first : get_or line first_word 0 ≡ (line_of line clue).first
  unfolding line_of
  of_first = refl

  pub of_positions : get_or line positions_word 0 ≡ (line_of line clue).positions
  unfolding line_of
  of_positions = refl
