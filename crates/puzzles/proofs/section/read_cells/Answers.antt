use borrow.Author.Tests.{eq-eqb}
use Rattle.refusals.proofs.Passing.{count_on}
use Rattle.puzzles.proofs.Places.{cells_within}
use Rattle.puzzles.proofs.section.read_cells.Goals as goal

pub returns-clause-walk : goal.returns-clause-walk
returns-clause-walk c = count_on _ _ _ _ _ _ c.in-Some.ensures.cases.0 (rw (← c.wide-n.ensures, eq-eqb _ _ c.if-n-area.false)) (rw (← c.wide-n.ensures) c.read_times.ensures)

pub returns-clause-within : goal.returns-clause-within
returns-clause-within c = cells_within _ _ _ _ (returns-clause-walk c)
