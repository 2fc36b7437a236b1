use Rattle.placed.proofs.KnownLines.{known_line}
use Rattle.numbering.proofs.Parts.{ready_sound}
use Rattle.placed.proofs.trial.Trial.line.Goals as goal

pub invariant_of-result : goal.invariant_of-result
invariant_of-result c = record { known = rw (c.line.ensures, c.args.self.known) (known_line _ _ c.requires (ready_sound _ _ c.args.self.lines.ready _ c.requires)) }
