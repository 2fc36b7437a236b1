use native.Mathlib.Omega.{arith}
use borrow.Author.Tests.{lt-ltb, le-ltb}
use Rattle.refusals.proofs.Offending.{searching_found, searching_next, searching_done}
use Rattle.runs.proofs.line.find_byte.Goals as goal

pub returns-then-color-gt31 : goal.returns-then-color-gt31
returns-then-color-gt31 c = searching_found c.loop-i.invariant 0 (omega arith) (lt-ltb _ _ c.if-color-gt31.true)

pub loop-i-preserved : goal.loop-i-preserved
loop-i-preserved c = searching_next c.loop-i.invariant 0 (omega arith) (le-ltb _ _ c.if-color-gt31.false)

pub returns : goal.returns
returns c = searching_done c.loop-i.invariant (omega arith)
