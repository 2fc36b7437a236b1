use Rattle.lists.proofs.Emitting.{one_first, one_room, one_next, one_done}
use Rattle.lists.proofs.Eaches.{length_tab}
use Rattle.literals.proofs.Words.{word_is}
use Rattle.sections.specs.Sections.{at_least_one}
use Rattle.sections.proofs.put_variables.Goals as goal

pub loop-i-init : goal.loop-i-init
unfolding at_least_one
loop-i-init c = one_first _ _ _ _ (rw length_tab at c.requires.n_in_bounds)

pub bounds-out-at : goal.bounds-out-at
bounds-out-at c = one_room c.loop-i.invariant c.loop-i-test.true

pub loop-i-preserved : goal.loop-i-preserved
loop-i-preserved c = rw (word_is c.yes.result c.yes.type_inv, c.yes.ensures) (one_next c.loop-i.invariant c.loop-i-test.true)

pub returns : goal.returns
unfolding at_least_one
returns c = one_done c.loop-i.invariant c.loop-i-test.false
