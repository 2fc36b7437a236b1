use mathlib.Core.Path.{◌≡◌}
use Rattle.lists.specs.Each.{each}
use Rattle.lists.proofs.Emitting.{Emitting}
use Rattle.sections.specs.Sections.{clauses_words}
use Rattle.cells.specs.Cells.{of_cell}
use Rattle.cells.specs.Held.{puzzle_given}
use Rattle.cells.proofs.section.write_cells.Given as goal

abbrev pub invariant-loop-x : goal.invariant-loop-x
invariant-loop-x l = (l.x-end ≡ l.given.reading.board.width) × Emitting l.given.reading.board.width (λ k. clauses_words (each l.given.reading.board.height (of_cell (puzzle_given l.given) l.rule k))) l.initial.out 1 l.out l.to l.x
