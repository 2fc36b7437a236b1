use Rattle.dimacs.proofs.ClauseLines.{LineFilling}
use Rattle.dimacs.proofs.write.put_clause.Given as goal

abbrev pub invariant-loop-word : goal.invariant-loop-word
invariant-loop-word l = LineFilling l.clause l.initial.out l.at l.out l.to l.word-index
