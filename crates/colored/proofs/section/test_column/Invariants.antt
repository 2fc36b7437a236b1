use mathlib.Core.Path.{◌≡◌}
use Rattle.lists.specs.Each.{each}
use Rattle.truth.specs.Truth.{value}
use Rattle.truth.proofs.Testing.{Testing}
use Rattle.cells.specs.Cells.{of_cell}
use Rattle.colored.specs.Held.{puzzle_claimed}
use Rattle.colored.proofs.section.test_column.Given as goal

abbrev pub invariant-loop-y : goal.invariant-loop-y
invariant-loop-y l = (l.y-end ≡ l.fn.claim.given.reading.board.height) × Testing (value l.fn.claim.model.now) l.at (each l.fn.claim.given.reading.board.height (of_cell (puzzle_claimed l.fn.claim) l.rule l.x)) l.fn.claim.given.reading.board.height (of_cell (puzzle_claimed l.fn.claim) l.rule l.x) l.to l.y
