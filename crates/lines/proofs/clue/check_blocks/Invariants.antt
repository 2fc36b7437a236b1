use Rattle.lines.proofs.ClueWords.{Checking}
use Rattle.lines.proofs.clue.check_blocks.Given as goal

abbrev pub invariant-loop-b : goal.invariant-loop-b
invariant-loop-b l = Checking l.clue l.b
