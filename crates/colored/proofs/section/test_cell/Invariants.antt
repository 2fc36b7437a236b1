use Rattle.truth.specs.Truth.{value}
use Rattle.colored.specs.Held.{puzzle_claimed}
use Rattle.colored.proofs.EachTests.{CellTesting}
use Rattle.colored.proofs.section.test_cell.Given as goal

abbrev pub invariant-loop-r : goal.invariant-loop-r
invariant-loop-r l = CellTesting (value l.fn.claim.model.now) (puzzle_claimed l.fn.claim) l.rule l.x l.y l.at l.to l.r
