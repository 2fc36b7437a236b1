use Rattle.boards.proofs.Coloring.{Knowing}
use Rattle.boards.proofs.colors.all_known.Given as goal

abbrev pub invariant-loop-color : goal.invariant-loop-color
invariant-loop-color l = Knowing l.colors l.clue l.color-index
