use mathlib.Core.Path.{◌≡◌}
use lib.ListN.{length}
use Rattle.formulas.specs.Clauses.{Ahead, clauses_ahead}
use Rattle.formulas.proofs.clauses.ClausesIterator.next.Given as goal

abbrev pub invariant-loop-word : goal.invariant-loop-word
invariant-loop-word l =
    Ahead l.self-inside.left l.self-inside.rest.now
    × (clauses_ahead l.self-inside.left l.self-inside.rest.now ≡ l.fn.self)

abbrev pub decreases-loop-word : goal.decreases-loop-word
decreases-loop-word l = length l.self-inside.rest.now
