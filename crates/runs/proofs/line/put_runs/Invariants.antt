use Prim.Native.Nat.{◌-◌}
use Rattle.runs.specs.Strided.{strided}
use Rattle.runs.proofs.LineCells.{Running}
use Rattle.runs.proofs.line.put_runs.Given as goal

abbrev pub invariant-loop-i : goal.invariant-loop-i
invariant-loop-i l = Running (strided l.from l.step l.n l.cells) l.initial.out l.at l.out l.to l.size l.color l.i

abbrev pub decreases-loop-i : goal.decreases-loop-i
decreases-loop-i l = l.n - l.i
