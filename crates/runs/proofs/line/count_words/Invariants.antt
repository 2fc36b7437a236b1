use Rattle.runs.proofs.LineCells.{Counting}
use Rattle.runs.proofs.line.count_words.Given as goal

abbrev pub invariant-loop-next : goal.invariant-loop-next
invariant-loop-next l = Counting l.line l.count l.color l.next-index
