use Rattle.boards.proofs.Boards.{masks_part}
use Rattle.numbering.proofs.reading.Reading.masks.Goals as goal

pub returns : goal.returns
returns c = masks_part _ c.args.self.lines.ready.sectioned c.args.self.stands.cells_is
