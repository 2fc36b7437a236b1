use native.Mathlib.Omega.{arith}
use Rattle.runs.proofs.LineCells.{counting_first, counting_next, counting_done}
use Rattle.runs.proofs.line.count_words.Goals as goal

pub loop-next-init : goal.loop-next-init
loop-next-init c = counting_first _

pub loop-next-preserved : goal.loop-next-preserved
loop-next-preserved c = counting_next c.loop-next.invariant (omega arith) c.run_begins-count.ensures.0 c.run_begins-count.ensures.1

pub returns : goal.returns
returns c = rw c.from.ensures (counting_done c.loop-next.invariant (omega arith))
