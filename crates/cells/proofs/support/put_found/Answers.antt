use Rattle.lists.proofs.Emitting.{one_room, one_next}
use Rattle.literals.proofs.Words.{word_is}
use Rattle.cells.proofs.Ruling.{found_first, found_done}
use Rattle.cells.proofs.support.put_found.Goals as goal

pub loop-i-init : goal.loop-i-init
loop-i-init c = found_first c.args.found.now _ _ c.requires.found_in_bounds

pub bounds-out-at : goal.bounds-out-at
bounds-out-at c = one_room c.loop-i.invariant c.loop-i-test.true

pub loop-i-preserved : goal.loop-i-preserved
loop-i-preserved c = rw (word_is c.yes.result c.yes.type_inv, c.yes.ensures) (one_next c.loop-i.invariant c.loop-i-test.true)

pub returns : goal.returns
returns c = found_done c.args.found.now c.loop-i.invariant c.loop-i-test.false
