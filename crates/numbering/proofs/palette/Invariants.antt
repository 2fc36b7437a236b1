use Prim.Native.Nat.{◌-◌}
use Rattle.lists.proofs.Emitting.{Emitting}
use Rattle.numbering.proofs.Palettes.{color_of}
use Rattle.numbering.proofs.palette.Given as goal

abbrev pub invariant-loop-k : goal.invariant-loop-k
invariant-loop-k l = Emitting 31 (color_of l.colors) l.initial.out 0 l.out l.at l.k

abbrev pub decreases-loop-k : goal.decreases-loop-k
decreases-loop-k l = 31 - l.k
