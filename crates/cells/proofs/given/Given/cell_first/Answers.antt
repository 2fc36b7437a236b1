use mathlib.Core.Path.{◌∙◌}
use Rattle.cells.proofs.BoardCells.{given_holds, given_shows, cell_is}
use Rattle.cells.proofs.given.Given.cell_first.Goals as goal

pub returns-clause-value : goal.returns-clause-value
returns-clause-value c = c.cell_first.ensures.value ∙ rw (c.shown.ensures.0, c.shown.ensures.1) (cell_is (given_shows (given_holds c.args.self)) _ _)
