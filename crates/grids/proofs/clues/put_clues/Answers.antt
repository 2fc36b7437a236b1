use Rattle.lists.proofs.Emitting.{emit_room, emit_next}
use Rattle.grids.proofs.ClueSections.{section_space, section_first, section_done}
use Rattle.grids.proofs.clues.put_clues.Goals as goal

pub bounds-out-from : goal.bounds-out-from
bounds-out-from c = section_space _ _ _ _ _ c.args.out.now _ c.requires.cells_in_bounds

pub loop-i-init : goal.loop-i-init
loop-i-init c = section_first _ _ _ _ _ c.args.out.now _ c.requires.cells_in_bounds

pub put_clue-to-requires : goal.put_clue-to-requires
put_clue-to-requires c = (c.requires.laid.lines _ c.loop-i-test.true, emit_room c.loop-i.invariant c.loop-i-test.true)

pub loop-i-preserved : goal.loop-i-preserved
loop-i-preserved c = emit_next c.loop-i.invariant c.loop-i-test.true c.put_clue-to.ensures

pub returns : goal.returns
returns c = section_done _ _ _ _ _ _ _ c.requires.cells_in_bounds c.loop-i.invariant c.loop-i-test.false
