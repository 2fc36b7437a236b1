use lib.ListN.{length}
use Rattle.grids.proofs.ClueSections.{Counting}
use Rattle.std.specs.Slice.Iter.{chunks_exact_rest, chunks_exact_size}
use Rattle.grids.proofs.clues.count_clues.Given as goal

abbrev pub invariant-loop-row : goal.invariant-loop-row
invariant-loop-row l = Counting l.grid.height l.grid.width l.grid.cells.now l.count (length l.yielded) (chunks_exact_rest l.row-iterator) (chunks_exact_size l.row-iterator)
