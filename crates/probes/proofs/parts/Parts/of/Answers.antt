use Rattle.lists.proofs.Writing.{tail_is}
use Rattle.probes.specs.Parts.{parts_in}
use Rattle.probes.proofs.parts.Parts.of.Goals as goal

pub returns : goal.returns
unfolding parts_in
returns c = rw (tail_is c.args.probe.now 1, c.wide.ensures)
