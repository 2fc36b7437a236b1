use Prim.Native.Nat.{◌+◌, ◌*◌, ◌/◌}
use lib.ListN.{length, get_or}
use Rattle.counts.proofs.Summing.{Summing}
use Rattle.implications.specs.Sizes.{impact_count}
use Rattle.implications.proofs.count.count_impacts.Given as goal

abbrev pub invariant-loop-color : goal.invariant-loop-color
invariant-loop-color l = Summing (length l.impacts / 3) 31 (λ r. impact_count l.painted.shown.board.colors (get_or l.impacts (3 * r + 2) 0)) l.total l.color-index
