use native.Mathlib.Omega.{arith}
use Rattle.dimacs.proofs.LineLoops.{few_first, few_clause, lines_few, bytes_few, counting_first, counting_line, counting_done}
use Rattle.dimacs.proofs.count.count_lines.Goals as goal

pub loop-clause-init : goal.loop-clause-init
loop-clause-init c = rw (c.into_iter-clause-iterator.ensures.into_iter_gives, c.of-clause-items.ensures) (counting_first (few_first c.args.formula.formed))

pub count_clause-bytes-requires : goal.count_clause-bytes-requires
count_clause-bytes-requires c = few_clause c.loop-clause.invariant.few c.in-Some.ensures.steps

pub overflow_add-bytes : goal.overflow_add-bytes
overflow_add-bytes c = omega (arith, (counting_line c.loop-clause.invariant c.in-Some.ensures.steps c.count_clause-bytes.ensures).bytes_are, bytes_few (few_first c.args.formula.formed))

pub overflow_add-clauses : goal.overflow_add-clauses
overflow_add-clauses c = omega (arith, (counting_line c.loop-clause.invariant c.in-Some.ensures.steps c.count_clause-bytes.ensures).clauses_are, lines_few (few_first c.args.formula.formed))

pub loop-clause-preserved : goal.loop-clause-preserved
loop-clause-preserved c = counting_line c.loop-clause.invariant c.in-Some.ensures.steps c.count_clause-bytes.ensures

pub returns : goal.returns
returns c = let d = counting_done c.loop-clause.invariant c.in-None.ensures.steps.0 in record { clauses_are = d.0; bytes_are = d.1 }
