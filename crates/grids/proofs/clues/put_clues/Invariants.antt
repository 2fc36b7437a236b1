use Prim.Native.Nat.{◌+◌, ◌-◌}
use Rattle.lists.proofs.Emitting.{Emitting}
use Rattle.grids.proofs.ClueSections.{laid_clue}
use Rattle.grids.proofs.clues.put_clues.Given as goal

abbrev pub invariant-loop-i : goal.invariant-loop-i
invariant-loop-i l = Emitting l.n (laid_clue l.skip l.step l.len l.cells) l.initial.out (l.from + 1) l.out l.to l.i

abbrev pub decreases-loop-i : goal.decreases-loop-i
decreases-loop-i l = l.n - l.i
