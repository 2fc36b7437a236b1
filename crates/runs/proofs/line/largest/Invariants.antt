use Rattle.lines.proofs.Checks.{Topped}
use Rattle.runs.proofs.line.largest.Given as goal

abbrev pub invariant-loop-x : goal.invariant-loop-x
invariant-loop-x l = Topped l.line l.most l.x-index
