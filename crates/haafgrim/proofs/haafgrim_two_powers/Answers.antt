use Rattle.refusals.proofs.Answering.{outcome_of}
use Rattle.haafgrim.proofs.haafgrim_two_powers.Goals as goal

pub returns : goal.returns
returns c = outcome_of _ _ c.two_powers.ensures c.tell.ensures.number c.tell.ensures.place
