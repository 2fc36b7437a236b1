-- The puzzle that a `Claim` holds.
use Rattle.puzzles.specs.Puzzle.{Puzzle}
use Rattle.cells.specs.Held.{puzzle_given}
use Rattle.colored.specs.declared.claim.Claim as C

abbrev pub puzzle_claimed : C.Claim → Puzzle
puzzle_claimed c = puzzle_given c.given
