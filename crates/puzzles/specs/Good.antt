-- Everything that holds of a puzzle whose words are accepted.
use Rattle.std.specs.Prelude.{◌≡◌, true, false, ℕ, ◌*◌, ◌≤◌, ◌<◌, length, get_or}
use Rattle.bits.specs.Bits.{bit}
use Rattle.lines.specs.Clue.{gap, min_space}
use Rattle.lines.specs.Arrangement.{Proper, block_at}
use Rattle.puzzles.specs.Puzzle.{Puzzle, width, height, lines, clue_at, length_at}
use Rattle.puzzles.specs.Colors.{off_solved}
use Rattle.puzzles.specs.Checks.{colors}

pub record Good (z : Puzzle) : Type 0 where
  pub width_some : 0 < width z
  pub width_most : width z ≤ 64
  pub height_some : 0 < height z
  pub height_most : height z ≤ 64
  -- of each line: its blocks have a size and a colour, and it has room for them
  pub few : (l : ℕ) → l < lines z → length (clue_at z l) ≤ 64
  pub proper : (l : ℕ) → l < lines z → Proper (clue_at z l)
  pub colors_most : (l b : ℕ) → l < lines z → b < length (clue_at z l) → (block_at (clue_at z l) b).color ≤ 31
  pub fits : (l : ℕ) → l < lines z → min_space gap (clue_at z l) ≤ length_at z l
  -- of the cells
  pub area : length z.masks ≡ width z * height z
  pub masks_some : (i : ℕ) → i < length z.masks → 0 < get_or z.masks i 0
  -- of the colour set
  pub columns_known : (l b : ℕ) → l < width z → b < length (clue_at z l) → bit (colors z) (block_at (clue_at z l) b).color ≡ true
  pub solved_known : (i : ℕ) → i < length z.masks → off_solved (colors z) (get_or z.masks i 0) ≡ false
