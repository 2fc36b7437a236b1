use Rattle.formulas.specs.Clauses.{clauses_in}
use Rattle.dimacs.proofs.LineLoops.{Counting}
use Rattle.dimacs.proofs.count.count_lines.Given as goal

abbrev pub invariant-loop-clause : goal.invariant-loop-clause
invariant-loop-clause l = Counting (clauses_in l.formula.words.now) l.clauses l.bytes l.clause-iterator
