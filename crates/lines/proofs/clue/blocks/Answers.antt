use mathlib.Core.Path.{◌∙◌}
use Rattle.lines.proofs.ClueWords.{chunks_pairs}
use Rattle.lines.proofs.clue.blocks.Goals as goal

pub returns : goal.returns
returns c = c.as_chunks.ensures.front ∙ chunks_pairs _
