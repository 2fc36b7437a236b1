use Prim.Native.Nat.{◌+◌}
use Rattle.numbering.specs.Held.{puzzle_in}
use Rattle.numbering.specs.Variables.{line_at}
use Rattle.counts.specs.Formulas.{measured}
use Rattle.counts.proofs.Bounded.{most}
use Rattle.counts.proofs.Summing.{Summing}
use Rattle.counts.proofs.line.count_lines.Given as goal

abbrev pub invariant-loop-k : goal.invariant-loop-k
invariant-loop-k l = Summing l.n (most l.measure) (λ k. measured l.measure (line_at (puzzle_in l.lines) (l.l + k))) l.total l.k
