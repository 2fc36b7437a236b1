use Rattle.puzzles.specs.Colors.{off_solved}
use Rattle.refusals.proofs.Offending.{Searching}
use Rattle.boards.proofs.colors.check_cells.Given as goal

abbrev pub invariant-loop-i : goal.invariant-loop-i
invariant-loop-i l = Searching (off_solved l.colors) 10 0 l.masks l.i l.i
