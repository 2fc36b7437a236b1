use Rattle.lines.specs.Arrangement.{at}
use Rattle.numbering.specs.Variables.{many}
use Rattle.numbering.specs.Held.{line_in}
use Rattle.counts.proofs.Summing.{Summing}
use Rattle.counts.proofs.line.size_count.Given as goal

abbrev pub invariant-loop-b : goal.invariant-loop-b
invariant-loop-b l = Summing (many (line_in l.line)) 64 (λ b. (at (line_in l.line).runs b).size) l.total l.b
