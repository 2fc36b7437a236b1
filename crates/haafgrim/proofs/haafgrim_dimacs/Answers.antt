use Rattle.refusals.proofs.Answering.{outcome_of}
use Rattle.haafgrim.proofs.haafgrim_dimacs.Goals as goal

pub returns : goal.returns
returns c = outcome_of _ _ c.dimacs.ensures c.tell.ensures.number c.tell.ensures.place
