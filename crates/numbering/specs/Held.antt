-- The line that a `Line` holds, and the puzzle that `Lines` or a `Reading` holds.
use Rattle.puzzles.specs.Puzzle.{Puzzle}
use Rattle.puzzles.specs.Checks.{puzzle}
use Rattle.numbering.specs.Variables.{Line}
use Rattle.numbering.specs.Tables.{line_of}
use Rattle.numbering.specs.declared.line.Line as L
use Rattle.numbering.specs.declared.reading.Lines as S
use Rattle.numbering.specs.declared.reading.Reading as R

abbrev pub line_in : L.Line → Line
line_in l = line_of l.laid.now l.clue.now

abbrev pub puzzle_in : S.Lines → Puzzle
puzzle_in s = puzzle s.words.now

abbrev pub puzzle_read : R.Reading → Puzzle
puzzle_read r = puzzle_in r.lines
