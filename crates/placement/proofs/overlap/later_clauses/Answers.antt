use mathlib.Core.Path.{◌≡◌}
use native.Mathlib.Omega.{arith}
use Rattle.lists.proofs.Emitting.{from_room, from_next}
use Rattle.sections.proofs.ClauseLists.{say_from, say_from_done}
use Rattle.numbering.proofs.SoundLines.{sound_few}
use Rattle.numbering.specs.Held.{line_in}
use Rattle.placement.specs.Placement.{conflicts}
use Rattle.placement.specs.PairRows.{rows_from}
use Rattle.placement.proofs.BlockLoops.{later_are}
use Rattle.placement.proofs.RowLaw.{conflicts_rows}
use Rattle.placement.proofs.overlap.later_clauses.Goals as goal
use Rattle.placement.proofs.overlap.later_clauses.Goals.{After-block_first}

-- the pair's rows, by the distance that was found
pair : (c : After-block_first) → conflicts (line_in c.args.line) c.args.a c.loop-b.b ≡ rows_from c.block_first-va.result c.block_first.result c.distance_of-d.result c.positions-p.result
pair c = rw (c.block_first-va.ensures.value, c.block_first.ensures.value, c.positions-p.ensures) (conflicts_rows _ _ _ c.distance_of-d.ensures.meets)

pub overflow_step-b : goal.overflow_step-b
overflow_step-b c = omega (arith, sound_few c.args.line.sound)

pub loop-b-init : goal.loop-b-init
loop-b-init c = say_from _ _ (conflicts (line_in c.args.line) c.args.a) _ _ (rw (← later_are (line_in c.args.line) c.args.a) c.requires.a_in_bounds)

pub put_rows-to-requires-clause-p_in_bounds : goal.put_rows-to-requires-clause-p_in_bounds
put_rows-to-requires-clause-p_in_bounds c = rw (pair (goal.at.put_rows-to-requires-clause-p_in_bounds c).After-block_first) at (from_room c.loop-b.invariant (omega arith))

pub loop-b-preserved : goal.loop-b-preserved
loop-b-preserved c = from_next c.loop-b.invariant (omega arith) (rw (pair (goal.at.loop-b-preserved c).After-block_first) c.put_rows-to.ensures)

pub returns : goal.returns
returns c = rw (later_are (line_in c.args.line) c.args.a) (say_from_done _ _ (conflicts (line_in c.args.line) c.args.a) c.loop-b.invariant (omega arith))
