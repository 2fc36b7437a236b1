use mathlib.Core.Path.{ap, ◌∙◌}
use native.Mathlib.Omega.{arith}
use lib.ListN.{length}
use borrow.Author.Tests.{le-ltb}
use Rattle.refusals.specs.Told.{checked}
use Rattle.refusals.proofs.Answering.{handed}
use Rattle.refusals.proofs.Passing.{walked_refused, walked_left, walked_done}
use Rattle.probes.specs.Probes.{read_probes}
use Rattle.probes.proofs.AcceptedProbes.{probes_only}
use Rattle.probes.proofs.read.check_probes.Goals as goal

pub returns-in_err-end : goal.returns-in_err-end
unfolding read_probes
returns-in_err-end c = ap checked (handed _ c.from_residual.ensures.1) ∙ rw (le-ltb 1048576 (length c.args.probe.now) (omega arith)) (walked_refused _ _ _ c.in_err-end.ensures)

pub returns-then-end-probe : goal.returns-then-end-probe
unfolding read_probes
returns-then-end-probe c = rw (le-ltb 1048576 (length c.args.probe.now) (omega arith)) (walked_left _ _ (probes_only _ _ _ _) c.in_ok-end.ensures (omega (arith, c.if-end-probe.true)))

pub returns : goal.returns
unfolding read_probes
returns c = rw (le-ltb 1048576 (length c.args.probe.now) (omega arith)) (walked_done _ _ (probes_only _ _ _ _) c.in_ok-end.ensures (omega (arith, c.if-end-probe.false)))
