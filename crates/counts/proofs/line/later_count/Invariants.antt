use Prim.Native.Nat.{suc, ◌+◌, ◌-◌}
use Rattle.numbering.specs.Variables.{many}
use Rattle.numbering.specs.Held.{line_in}
use Rattle.counts.specs.Formulas.{overlap_pair}
use Rattle.counts.proofs.Summing.{Summing}
use Rattle.counts.proofs.line.later_count.Given as goal

abbrev pub invariant-loop-k : goal.invariant-loop-k
invariant-loop-k l = Summing (many (line_in l.line) - suc l.a) 2080 (λ j. overlap_pair (line_in l.line) l.a (suc l.a + j)) l.total l.k
