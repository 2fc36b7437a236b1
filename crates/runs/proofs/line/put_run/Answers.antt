use mathlib.Core.Path.{ap}
use native.Mathlib.Omega.{arith}
use lib.ListN.{length}
use Rattle.lists.proofs.Writing.{wrote_none}
use Rattle.runs.proofs.LineCells.{run_blank, run_some}
use Rattle.runs.proofs.line.put_run.Goals as goal

pub returns-then-color-eq0 : goal.returns-then-color-eq0
returns-then-color-eq0 c = rw (run_blank _ _ c.if-color-eq0.true) (wrote_none _ _)

pub put_pair-requires : goal.put_pair-requires
put_pair-requires c = omega (arith, ap length (run_some c.args.size c.args.color c.if-color-eq0.false))

pub returns : goal.returns
returns c = rw (run_some _ _ c.if-color-eq0.false) (rw c.from.ensures at c.put_pair.ensures)
