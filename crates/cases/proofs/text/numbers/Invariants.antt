use Rattle.std.proofs.Common.{◌≤◌, length}
use Rattle.cases.proofs.text.numbers.Given as goal

abbrev pub invariant-loop-word : goal.invariant-loop-word
invariant-loop-word l = l.at ≤ length l.out
