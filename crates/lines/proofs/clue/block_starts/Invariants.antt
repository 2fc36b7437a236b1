use Rattle.lines.proofs.ClueWords.{Starting}
use Rattle.lines.proofs.clue.block_starts.Given as goal

abbrev pub invariant-loop-b : goal.invariant-loop-b
invariant-loop-b l = Starting l.clue l.initial.out l.from l.out l.at l.color l.b
