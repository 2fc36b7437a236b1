use Rattle.numbering.specs.Variables.{many}
use Rattle.numbering.specs.Held.{line_in}
use Rattle.counts.specs.Formulas.{overlap_at}
use Rattle.counts.proofs.Summing.{Summing}
use Rattle.counts.proofs.line.overlap_count.Given as goal

abbrev pub invariant-loop-a : goal.invariant-loop-a
invariant-loop-a l = Summing (many (line_in l.line)) 133120 (overlap_at (line_in l.line)) l.total l.a
