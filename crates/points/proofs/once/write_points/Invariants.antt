use Rattle.lists.proofs.Emitting.{Emitting}
use mathlib.Core.Path.{◌≡◌}
use Rattle.sections.specs.Sections.{clauses_words}
use Rattle.points.specs.Points.{column_once}
use Rattle.points.proofs.once.write_points.Given as goal

abbrev pub invariant-loop-x : goal.invariant-loop-x
invariant-loop-x l = (l.x-end ≡ l.fn.board.width) × Emitting l.fn.board.width (λ j. clauses_words (column_once l.fn.board l.k j)) l.initial.out 1 l.out l.to l.x
