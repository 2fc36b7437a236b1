use mathlib.Core.Path.{◌≡◌}
use Rattle.lists.proofs.Emitting.{Emitting}
use Rattle.sections.specs.Sections.{clauses_words}
use Rattle.cells.specs.Cells.{of_cell}
use Rattle.cells.specs.Held.{puzzle_given}
use Rattle.cells.proofs.section.column_clauses.Given as goal

abbrev pub invariant-loop-y : goal.invariant-loop-y
invariant-loop-y l = (l.y-end ≡ l.given.reading.board.height) × Emitting l.given.reading.board.height (λ k. clauses_words (of_cell (puzzle_given l.given) l.rule l.x k)) l.initial.out l.at l.out l.to l.y
