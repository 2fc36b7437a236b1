use Rattle.numbering.proofs.SoundLines.{of_many, of_run}
use Rattle.numbering.proofs.line.Line.run_at.Goals as goal

pub returns : goal.returns
returns c = rw (of_run c.args.self.laid.now c.args.self.clue.now c.args.b (rw of_many c.requires), c.wide-start.ensures, c.wide-size.ensures)
