use Rattle.puzzles.proofs.Accepting.{sizes}
use Rattle.boards.proofs.Coloring.{joining_first, joining_next, joined_none, joined_some}
use native.Mathlib.Omega.{arith}
use Rattle.boards.proofs.colors.row_colors.Goals as goal

pub overflow_add-l-end : goal.overflow_add-l-end
overflow_add-l-end c = omega (arith, c.requires, sizes c.args.table.words.now c.args.table.sectioned)

pub loop-l-init : goal.loop-l-init
loop-l-init c = rw c.requires.0 (joining_first _)

pub loop-l-preserved : goal.loop-l-preserved
loop-l-preserved c = joining_next c.loop-l.invariant (omega (arith, c.loop-l-test.true, c.requires)) c.with_colors-all.ensures c.clue.ensures

pub returns-then-all-eq0 : goal.returns-then-all-eq0
returns-then-all-eq0 c = joined_none c.loop-l.invariant (omega (arith, c.loop-l-test.false, c.requires)) c.if-all-eq0.true

pub returns : goal.returns
returns c = joined_some c.loop-l.invariant (omega (arith, c.loop-l-test.false, c.requires)) c.if-all-eq0.false
