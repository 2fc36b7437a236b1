use mathlib.Core.Path.{◌≡◌}
use Rattle.lists.specs.Each.{each}
use Rattle.truth.specs.Truth.{value}
use Rattle.truth.proofs.Testing.{Testing}
use Rattle.cells.specs.Cells.{of_cells, of_cell}
use Rattle.colored.specs.Held.{puzzle_claimed}
use Rattle.colored.proofs.section.test_cells.Given as goal

abbrev pub invariant-loop-x : goal.invariant-loop-x
invariant-loop-x l = (l.x-end ≡ l.fn.claim.given.reading.board.width) × Testing (value l.fn.claim.model.now) l.at (of_cells (puzzle_claimed l.fn.claim) l.rule) l.fn.claim.given.reading.board.width (λ k. each l.fn.claim.given.reading.board.height (of_cell (puzzle_claimed l.fn.claim) l.rule k)) l.to l.x
