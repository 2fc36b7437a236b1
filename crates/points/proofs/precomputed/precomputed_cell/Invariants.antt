use Prim.Native.Nat.{◌+◌}
use lib.ListN.{length, get_or}
use Rattle.lists.proofs.Emitting.{Emitting}
use Rattle.sections.specs.Sections.{clauses_words}
use Rattle.cells.specs.Cells.{precomputed}
use Rattle.points.proofs.precomputed.precomputed_cell.Given as goal

abbrev pub invariant-loop-r : goal.invariant-loop-r
invariant-loop-r l = Emitting (length l.palette) (λ k. clauses_words (precomputed l.mask (get_or l.palette k 0) (l.v + k))) l.initial.out l.at l.out l.to l.r
