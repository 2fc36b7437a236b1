use Rattle.checker.proofs.Counting.{pairing_found, pairing_next, pairing_done}
use Rattle.truth.specs.Truth.{value}
use native.Mathlib.Omega.{arith}
use Rattle.checker.proofs.count.check_cells.Goals as goal

pub returns-then-count_true-gt1 : goal.returns-then-count_true-gt1
returns-then-count_true-gt1 c = pairing_found (value c.args.model.now) c.args.v c.args.n c.args.k c.loop-i.invariant c.loop-i-test.true (omega (arith, c.count_true.ensures, c.if-count_true-gt1.true))

pub loop-i-preserved : goal.loop-i-preserved
loop-i-preserved c = pairing_next (value c.args.model.now) c.args.v c.args.n c.args.k c.loop-i.invariant c.loop-i-test.true (omega (arith, c.count_true.ensures, c.if-count_true-gt1.false))

pub returns : goal.returns
returns c = pairing_done (value c.args.model.now) c.args.v c.args.n c.args.k c.loop-i.invariant c.loop-i-test.false
