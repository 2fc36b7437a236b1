use Rattle.ranges.proofs.Ranges.{Spanning}
use Rattle.ranges.proofs.range.color_span.Given as goal

abbrev pub invariant-loop-size : goal.invariant-loop-size
invariant-loop-size l = Spanning l.clue l.color l.span l.at l.last l.size-index
