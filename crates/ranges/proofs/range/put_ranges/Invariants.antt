use Prim.Native.Nat.{◌+◌, ◌-◌}
use Rattle.lists.proofs.Emitting.{Emitting}
use Rattle.lines.specs.Clue.{blocks, gap, packed, of_color, range}
use Rattle.ranges.proofs.range.put_ranges.Given as goal

abbrev pub invariant-loop-k : goal.invariant-loop-k
invariant-loop-k l = Emitting 31 (λ k. range l.slack (of_color (k + 1) (packed gap (blocks l.clue)))) l.initial.out 0 l.out l.at l.k

abbrev pub decreases-loop-k : goal.decreases-loop-k
decreases-loop-k l = 31 - l.k
