use native.Mathlib.Omega.{arith}
use Rattle.numbering.proofs.SoundLines.{sound_shared, sound_few}
use Rattle.counts.specs.Formulas.{overlap_at}
use Rattle.counts.proofs.Summing.{summing_next, summing_most, summing_done}
use Rattle.counts.proofs.Countings.{later_first, pair_is}
use Rattle.counts.proofs.line.later_count.Goals as goal

pub loop-k-init : goal.loop-k-init
loop-k-init c = later_first c.args.line.sound c.args.a

pub pair_count-total-requires : goal.pair_count-total-requires
pair_count-total-requires c = omega (arith, sound_shared c.args.line.sound)

pub overflow_add-total : goal.overflow_add-total
overflow_add-total c = omega (arith, summing_most c.loop-k.invariant (omega arith) (pair_is _ _ _ c.positions-p.ensures c.distance_of.ensures.value c.pair_count-total.ensures), sound_few c.args.line.sound)

pub loop-k-preserved : goal.loop-k-preserved
loop-k-preserved c = summing_next c.loop-k.invariant (omega arith) (pair_is _ _ _ c.positions-p.ensures c.distance_of.ensures.value c.pair_count-total.ensures)

pub returns : goal.returns
returns c = unfold overlap_at in summing_done c.loop-k.invariant (omega arith)
