use Rattle.formulas.specs.Clauses.{clauses_in}
use Rattle.dimacs.proofs.LineLoops.{LinesFilling}
use Rattle.dimacs.proofs.write.put_lines.Given as goal

abbrev pub invariant-loop-clause : goal.invariant-loop-clause
invariant-loop-clause l = LinesFilling (clauses_in l.formula.words.now) l.initial.out l.at l.out l.to l.clause-iterator
