use Prim.Native.Nat.{◌-◌}
use Rattle.lines.specs.Runs.{run}
use Rattle.cells.proofs.BlockPositions.{Reaching}
use Rattle.cells.proofs.covering.covering_block.Given as goal

abbrev pub invariant-loop-i : goal.invariant-loop-i
invariant-loop-i l = Reaching l.v (run l.block) l.t l.p l.initial.found l.at l.found l.to l.i

abbrev pub decreases-loop-i : goal.decreases-loop-i
decreases-loop-i l = l.p - l.i
