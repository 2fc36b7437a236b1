use mathlib.Core.Path.{◌∙◌, ap}
use Rattle.refusals.specs.Told.{told}
use Rattle.refusals.proofs.Answering.{handed}
use Rattle.walks.proofs.Passing.{passing_next, passing_stop, passing_done}
use Rattle.walks.proofs.read_times.Goals as goal

pub returns-in_err-next : goal.returns-in_err-next
returns-in_err-next g c = ap told (handed _ c.from_residual.ensures.1) ∙ passing_stop c.loop.invariant c.loop-test.true _ c.in_err-next.ensures

pub loop-preserved : goal.loop-preserved
loop-preserved g c = passing_next c.loop.invariant (g.met.R.Reads.onward c.args.reader) c.in_ok-next.ensures c.loop-test.true

pub returns : goal.returns
returns g c = passing_done c.loop.invariant c.loop-test.false
