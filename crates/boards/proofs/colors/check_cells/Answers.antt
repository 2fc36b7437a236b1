use Rattle.refusals.proofs.Offending.{searching_first, searching_found, searching_next, searching_done}
use native.Mathlib.Omega.{arith}
use mathlib.Core.Path.{sym, ◌∙◌}
use Rattle.boards.proofs.colors.check_cells.Goals as goal

pub loop-i-init : goal.loop-i-init
loop-i-init c = searching_first _ _ _ _

pub returns-then-off_solved : goal.returns-then-off_solved
returns-then-off_solved c = searching_found c.loop-i.invariant 0 (omega arith) (sym c.off_solved.ensures ∙ c.if-off_solved.true)

pub loop-i-preserved : goal.loop-i-preserved
loop-i-preserved c = searching_next c.loop-i.invariant 0 (omega arith) (sym c.off_solved.ensures ∙ c.if-off_solved.false)

pub returns : goal.returns
returns c = searching_done c.loop-i.invariant (omega arith)
