use Rattle.boards.proofs.Coloring.{Joining}
use Rattle.puzzles.specs.Checks as C
use Rattle.boards.proofs.colors.row_colors.Given as goal

abbrev pub invariant-loop-l : goal.invariant-loop-l
invariant-loop-l l = Joining (C.puzzle l.table.words.now) l.all l.l
