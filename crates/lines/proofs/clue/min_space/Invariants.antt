use Prim.Native.Nat.{◌*◌, ◌^◌, ◌≤◌}
use Rattle.lines.proofs.ClueWords.{Walk}
use Rattle.lines.proofs.clue.min_space.Given as goal

abbrev pub invariant-loop-size : goal.invariant-loop-size
invariant-loop-size l = Walk l.clue l.at l.color l.size-index × (l.at ≤ l.size-index * 2 ^ 32)
