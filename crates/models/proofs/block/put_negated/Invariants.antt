use Rattle.models.proofs.Negating.{Negating}
use Rattle.truth.specs.Truth.{value}
use Rattle.models.proofs.block.put_negated.Given as goal

abbrev pub invariant-loop-k : goal.invariant-loop-k
invariant-loop-k l = Negating (value l.model) l.v l.n l.initial.out l.at l.out l.to l.k
