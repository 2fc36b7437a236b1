-- The puzzle that a `Trial` holds.
use Rattle.puzzles.specs.Puzzle.{Puzzle}
use Rattle.numbering.specs.Held.{puzzle_in}
use Rattle.placed.specs.declared.trial.Trial as T

abbrev pub puzzle_tried : T.Trial → Puzzle
puzzle_tried t = puzzle_in t.lines
