use Rattle.puzzles.specs.Checks as C
use Rattle.puzzles.specs.Colors.{known}
use Rattle.refusals.proofs.Offending.{Searching}
use mathlib.Core.Bool.{not}
use Rattle.boards.proofs.colors.check_columns.Given as goal

abbrev pub invariant-loop-l : goal.invariant-loop-l
invariant-loop-l l = Searching (λ bs. not (known l.colors bs)) 9 0 (C.puzzle l.table.words.now).columns l.l l.l
