use Rattle.dimacs.proofs.ClauseLines.{LineCounting}
use Rattle.dimacs.proofs.count.count_clause.Given as goal

abbrev pub invariant-loop-word : goal.invariant-loop-word
invariant-loop-word l = LineCounting l.clause l.bytes l.word-index
