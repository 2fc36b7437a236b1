use mathlib.Core.Path.{ap}
use native.Mathlib.Omega.{arith}
use Rattle.lines.specs.Clue.{Run}
use Rattle.numbering.proofs.SoundLines.{sound_few}
use Rattle.counts.proofs.Summing.{summing_next, summing_most}
use Rattle.counts.proofs.Countings.{sizes_first}
use Rattle.counts.proofs.line.size_count.Goals as goal

pub loop-b-init : goal.loop-b-init
loop-b-init c = sizes_first c.args.line.sound

pub overflow_add-total : goal.overflow_add-total
overflow_add-total c = omega (arith, summing_most c.loop-b.invariant (omega arith) (ap (λ (r : Run). r.size) c.run_at-total.ensures), sound_few c.args.line.sound)

pub loop-b-preserved : goal.loop-b-preserved
loop-b-preserved c = summing_next c.loop-b.invariant (omega arith) (ap (λ (r : Run). r.size) c.run_at-total.ensures)
