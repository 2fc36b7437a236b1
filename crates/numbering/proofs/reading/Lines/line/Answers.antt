use Rattle.numbering.proofs.Parts.{found_line, found_sound, found_long}
use Rattle.numbering.proofs.reading.Lines.line.Goals as goal

pub invariant_of-result : goal.invariant_of-result
invariant_of-result c = record {
  sound = found_sound _ _ c.args.self.ready _ c.requires c.find_line-parts.ensures;
  long = found_long _ _ c.args.self.ready _ c.requires c.find_line-parts.ensures;
}

pub returns : goal.returns
returns c = found_line _ _ c.args.self.ready _ c.requires c.find_line-parts.ensures
