use native.Mathlib.Omega.{arith}
use Rattle.lists.specs.Each.{sum_pairs}
use Rattle.numbering.proofs.SoundLines.{sound_few}
use Rattle.counts.specs.Formulas.{overlap_at, overlap_in}
use Rattle.counts.proofs.Summing.{summing_next, summing_most, summing_done}
use Rattle.counts.proofs.Countings.{overlap_first}
use Rattle.counts.proofs.line.overlap_count.Goals as goal

pub loop-a-init : goal.loop-a-init
loop-a-init c = overlap_first c.args.line.sound

pub overflow_add-total : goal.overflow_add-total
overflow_add-total c = omega (arith, summing_most c.loop-a.invariant (omega arith) c.later_count-total.ensures, sound_few c.args.line.sound)

pub loop-a-preserved : goal.loop-a-preserved
loop-a-preserved c = summing_next c.loop-a.invariant (omega arith) c.later_count-total.ensures

pub returns : goal.returns
returns c = unfold overlap_in sum_pairs overlap_at in summing_done c.loop-a.invariant (omega arith)
