use mathlib.Core.Path.{◌≡◌}
use Rattle.lists.proofs.Emitting.{Emitting}
use Rattle.sections.specs.Sections.{clauses_words, at_most_one}
use Rattle.cells.specs.Held.{cell_at}
use Rattle.points.proofs.once.point_once_clauses.Given as goal

abbrev pub invariant-loop-y : goal.invariant-loop-y
invariant-loop-y l = (l.y-end ≡ l.shown.board.height) × Emitting l.shown.board.height (λ y. clauses_words (at_most_one (cell_at l.shown.board l.shown.hues l.x y) l.shown.hues)) l.initial.out l.at l.out l.to l.y
