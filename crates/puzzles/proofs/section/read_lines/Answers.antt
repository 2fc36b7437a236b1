use mathlib.Core.Path.{sym, ◌∙◌}
use Rattle.refusals.proofs.Passing.{count_on}
use Rattle.puzzles.proofs.Places.{lines_within}
use Rattle.puzzles.proofs.section.read_lines.Goals as goal

pub returns-clause-walk : goal.returns-clause-walk
returns-clause-walk c = count_on _ _ _ _ _ _ c.in-Some.ensures.cases.0 (rw (← c.wide-n.ensures) (sym c.off_size.ensures ∙ c.if-off_size.false)) (rw (← c.wide-n.ensures) c.read_times.ensures)

pub returns-clause-within : goal.returns-clause-within
returns-clause-within c = lines_within _ _ _ (returns-clause-walk c)
