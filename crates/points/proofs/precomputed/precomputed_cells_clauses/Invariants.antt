use Prim.Native.Nat.{◌+◌, ◌*◌}
use lib.ListN.{length, get_or}
use Rattle.lists.proofs.Emitting.{Emitting}
use Rattle.sections.specs.Sections.{clauses_words}
use Rattle.points.specs.Points.{of_mask}
use Rattle.points.proofs.precomputed.precomputed_cells_clauses.Given as goal

abbrev pub invariant-loop-i : goal.invariant-loop-i
invariant-loop-i l = Emitting (length l.masks) (λ j. clauses_words (of_mask l.palette (get_or l.masks j 0) (l.v + j * length l.palette))) l.initial.out l.at l.out l.to l.i
