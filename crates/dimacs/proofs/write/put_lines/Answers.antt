use mathlib.Core.Path.{refl}
use Rattle.lists.proofs.Writing.{fill_first}
use Rattle.dimacs.proofs.LineLoops.{few_first, few_clause, line_room, lines_next, lines_wrote}
use Rattle.dimacs.proofs.write.put_lines.Goals as goal

pub loop-clause-init : goal.loop-clause-init
loop-clause-init c = rw (c.into_iter-clause-iterator.ensures.into_iter_gives, c.of-clause-items.ensures) (record { few = few_first c.args.formula.formed; fill = fill_first _ _ _ c.requires refl })

pub put_clause-to-requires : goal.put_clause-to-requires
put_clause-to-requires c = ((few_clause c.loop-clause.invariant.few c.in-Some.ensures.steps).0, line_room c.loop-clause.invariant c.in-Some.ensures.steps)

pub loop-clause-preserved : goal.loop-clause-preserved
loop-clause-preserved c = lines_next c.loop-clause.invariant c.in-Some.ensures.steps c.put_clause-to.ensures

pub returns : goal.returns
returns c = lines_wrote c.loop-clause.invariant c.in-None.ensures.steps.0
