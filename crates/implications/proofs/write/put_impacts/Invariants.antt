use Prim.Native.Nat.{◌*◌, ◌/◌}
use lib.ListN.{length}
use Rattle.lists.proofs.Emitting.{Emitting}
use Rattle.sections.specs.Sections.{clauses_words}
use Rattle.probes.specs.Words.{claim_at}
use Rattle.implied.specs.ByWords.{impact_in}
use Rattle.implications.proofs.write.put_impacts.Given as goal

abbrev pub invariant-loop-x : goal.invariant-loop-x
invariant-loop-x l = Emitting (length l.impacts / 3) (λ i. clauses_words (impact_in l.painted.shown.board l.painted.palette.now l.premise.literals.now (claim_at l.impacts (3 * i)))) l.initial.out l.at l.out l.to l.x-index
