use Rattle.sections.specs.Sections.{at_most_one}
use Rattle.truth.specs.Truth.{value}
use Rattle.truth.proofs.Testing.{Testing}
use Rattle.points.specs.Points.{column_once}
use Rattle.cells.specs.Held.{cell_at}
use Rattle.pointed.proofs.once.test_column.Given as goal

abbrev pub invariant-loop-y : goal.invariant-loop-y
invariant-loop-y l = Testing (value l.model) l.at (column_once l.shown.board l.shown.hues l.x) l.shown.board.height (λ y. at_most_one (cell_at l.shown.board l.shown.hues l.x y) l.shown.hues) l.to l.y
