use borrow.Author.Tests.{le-ltb}
use Rattle.refusals.proofs.Passing.{count_on}
use Rattle.puzzles.proofs.section.ClueReads.read.Goals as goal

pub returns : goal.returns
returns c = count_on _ _ _ _ _ _ c.in-Some.ensures.cases.0 (le-ltb _ _ c.if-n-gt64.false) (rw (← c.wide.ensures) c.read_times.ensures)
