use Rattle.refusals.proofs.Offending.{searching_found, searching_next, searching_done}
use native.Mathlib.Omega.{arith}
use borrow.Author.Tests.{lt-ltb, le-ltb}
use Rattle.checker.proofs.count.check_values.Goals as goal

pub returns-then-byte-gt1 : goal.returns-then-byte-gt1
returns-then-byte-gt1 c = searching_found c.loop-i.invariant 0 (omega arith) (lt-ltb 1 _ (omega arith))

pub loop-i-preserved : goal.loop-i-preserved
loop-i-preserved c = searching_next c.loop-i.invariant 0 (omega arith) (le-ltb 1 _ (omega arith))

pub returns : goal.returns
returns c = searching_done c.loop-i.invariant (omega arith)
