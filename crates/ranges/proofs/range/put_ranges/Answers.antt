use native.Mathlib.Omega.{arith}
use Rattle.lists.proofs.Emitting.{emit_first, emit_next, emit_done}
use Rattle.lines.specs.Clue.{blocks, gap, packed}
use Rattle.ranges.proofs.Ranges.{ranges_length, pair_room}
use Rattle.ranges.proofs.range.put_ranges.Goals as goal

pub loop-k-init : goal.loop-k-init
loop-k-init c = emit_first 31 _ _ 0 (omega (arith, ranges_length c.args.slack (packed gap (blocks c.args.clue.now))))

pub put_range-at-requires-clause-at_in_bounds : goal.put_range-at-requires-clause-at_in_bounds
put_range-at-requires-clause-at_in_bounds c = pair_room _ _ c.loop-k.invariant c.loop-k-test.true

pub loop-k-preserved : goal.loop-k-preserved
loop-k-preserved c = emit_next c.loop-k.invariant c.loop-k-test.true c.put_range-at.ensures

pub returns : goal.returns
returns c = emit_done c.loop-k.invariant c.loop-k-test.false
