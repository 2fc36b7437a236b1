use mathlib.Core.Path.{sym}
use lib.Seq.{length-take-le}
use Rattle.lists.proofs.Fronts.{wrote_front}
use Rattle.encoding.proofs.program.encode.Goals as goal

pub tell-requires : goal.tell-requires
tell-requires c = sym (length-take-le 65536 c.args.out.now c.requires)

pub returns : goal.returns
returns c = (wrote_front c.requires c.tell.ensures.1 c.tell.ensures.0, c.tell.ensures.1)
