use Rattle.checker.proofs.Counting.{Pairing}
use Rattle.truth.specs.Truth.{value}
use Rattle.checker.proofs.count.check_cells.Given as goal

abbrev pub invariant-loop-i : goal.invariant-loop-i
invariant-loop-i l = Pairing (value l.model) l.v l.n l.k l.i
