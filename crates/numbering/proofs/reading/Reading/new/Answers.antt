use Rattle.numbering.proofs.Parts.{held_ready}
use Rattle.numbering.proofs.reading.Reading.new.Goals as goal

pub invariant_of-result : goal.invariant_of-result
invariant_of-result c = record { ready = held_ready _ _ _ c.requires.0 c.requires.1 }
