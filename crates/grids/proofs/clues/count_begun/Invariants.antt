use lib.ListN.{length}
use Rattle.grids.proofs.ColumnWords.{Finding}
use Rattle.grids.proofs.clues.count_begun.Given as goal

abbrev pub invariant-loop-color : goal.invariant-loop-color
invariant-loop-color l = Finding l.row l.above l.count (length l.yielded)
