use Rattle.numbering.specs.Held.{line_in}
use Rattle.cells.proofs.LinePositions.{Searching}
use Rattle.cells.proofs.covering.covering_positions.Given as goal

abbrev pub invariant-loop-b : goal.invariant-loop-b
invariant-loop-b l = Searching (line_in l.fn.line) l.color l.t l.initial.found l.found l.to l.b
