use mathlib.Core.Path.{refl}
use Rattle.refusals.proofs.Passing.{count_on}
use Rattle.probes.proofs.read.read_listed.Goals as goal

pub returns : goal.returns
returns g c = count_on _ _ _ _ _ _ c.in-Some.ensures.cases.0 refl (rw (← c.wide.ensures) c.read_times.ensures)
