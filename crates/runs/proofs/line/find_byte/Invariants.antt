use lib.Dec.{ltb}
use Rattle.refusals.proofs.Offending.{Searching}
use Rattle.runs.proofs.line.find_byte.Given as goal

abbrev pub invariant-loop-i : goal.invariant-loop-i
invariant-loop-i l = Searching (ltb 31) 18 0 l.line l.i l.i
