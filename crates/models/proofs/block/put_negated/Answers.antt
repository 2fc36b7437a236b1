use Rattle.models.proofs.Negating.{negating_first, negating_skip, negating_room, negating_next, negating_done}
use Rattle.literals.proofs.Words.{word_is}
use Rattle.truth.specs.Truth.{value}
use mathlib.Core.Path.{sym, ◌∙◌}
use Rattle.models.proofs.block.put_negated.Goals as goal

pub loop-k-init : goal.loop-k-init
loop-k-init c = negating_first _ _ _ _ _ c.requires.n_in_bounds

pub loop-k-preserved-then-not-on : goal.loop-k-preserved-then-not-on
loop-k-preserved-then-not-on c = negating_skip (value c.args.model.now) c.args.v c.args.n c.loop-k.invariant c.loop-k-test.true (sym c.on.ensures ∙ c.if-not-on.true)

pub bounds-out-to : goal.bounds-out-to
bounds-out-to c = negating_room (value c.args.model.now) c.args.v c.args.n c.loop-k.invariant c.loop-k-test.true (sym c.on.ensures ∙ c.if-not-on.false)

pub loop-k-preserved : goal.loop-k-preserved
loop-k-preserved c = negating_next (value c.args.model.now) c.args.v c.args.n c.loop-k.invariant c.loop-k-test.true (sym c.on.ensures ∙ c.if-not-on.false) (word_is c.no.result c.no.type_inv ∙ c.no.ensures)

pub returns : goal.returns
returns c = negating_done _ _ _ c.loop-k.invariant c.loop-k-test.false
