use Prim.Native.Nat.{◌-◌}
use Rattle.walks.proofs.Passing.{Passing}
use Rattle.walks.proofs.read_times.Given as goal

abbrev pub invariant-loop : goal.invariant-loop
invariant-loop g l = Passing (g.R.Reads.walk l.reader) l.n l.at l.part l.counter l.i

abbrev pub decreases-loop : goal.decreases-loop
decreases-loop g l = l.n - l.counter
