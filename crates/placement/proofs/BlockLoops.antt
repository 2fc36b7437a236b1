-- The loops over the blocks of a line: each says what it says of one, and so do two of them, one inside the other.
use mathlib.Core.Path.{◌≡◌}
use Prim.Native.Nat.{ℕ, ◌+◌, ◌-◌}
use native.Mathlib.Numerals.{add-one}
use Rattle.lists.specs.Each.{each}
use Rattle.numbering.specs.Variables.{Line, many}
use Rattle.placement.specs.Placement.{conflicts}
use Rattle.placement.specs.PairRows.{later_pairs}

-- a block with each later one
pub later_are : (L : Line) (a : ℕ) → later_pairs L a ≡ each (many L - (a + 1)) (λ k. conflicts L a (a + 1 + k))
unfolding later_pairs
later_are L a = rw (add-one a)
