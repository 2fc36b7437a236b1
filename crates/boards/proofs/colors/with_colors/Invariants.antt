use Rattle.boards.proofs.Coloring.{Gathering}
use Rattle.boards.proofs.colors.with_colors.Given as goal

abbrev pub invariant-loop-color : goal.invariant-loop-color
invariant-loop-color l = Gathering l.mask l.clue l.all l.color-index
