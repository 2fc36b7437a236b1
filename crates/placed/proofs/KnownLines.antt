-- A model with a byte for each variable of a puzzle has one for each variable of its lines.
use Prim.Native.Nat.{ℕ, ◌-◌, ◌<◌}
use native.Mathlib.Omega.{arith}
use lib.ListN.{length}
use Rattle.lines.specs.Clue.{gap}
use Rattle.lines.proofs.Packing.{packed_length}
use Rattle.puzzles.specs.Puzzle.{Puzzle, lines, clue_at}
use Rattle.puzzles.specs.Firsts.{positions_at}
use Rattle.numbering.specs.Variables.{line_at, variables}
use Rattle.numbering.specs.Tables.{Sound}
use Rattle.numbering.specs.Names.{position}
use Rattle.numbering.proofs.SoundLines.{sound_some}
use Rattle.numbering.proofs.OneToOne.{numbered_within}
use Rattle.placed.specs.Known.{Known}

module _ (z : Puzzle) (l : ℕ) (h : l < lines z) (S : Sound (line_at z l)) where
  -- the last position of a block is named
  pub known_line : Known (variables z) (line_at z l)
  unfolding line_at
  known_line b k =
      let n : b < length (clue_at z l) = omega (arith, packed_length gap (clue_at z l)) in
      let s : 0 < positions_at z l = sound_some S in
      omega (arith, (numbered_within z (position l b (positions_at z l - 1)) (h, n, omega arith)).1)
