use mathlib.Core.Path.{sym, ◌∙◌}
use Rattle.boards.proofs.Coloring.{unsolved_not, solved_off}
use Rattle.boards.proofs.colors.off_solved.Goals as goal

pub returns-then-not-solved : goal.returns-then-not-solved
returns-then-not-solved c = unsolved_not _ _ (sym c.solved.ensures ∙ c.if-not-solved.true)

pub returns : goal.returns
returns c = solved_off _ _ (sym c.solved.ensures ∙ c.if-not-solved.false)
