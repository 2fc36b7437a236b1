use Rattle.cells.specs.Held.{puzzle_given}
use Rattle.cells.proofs.ByColumn.{Coloring}
use Rattle.cells.proofs.section.cell_clauses.Given as goal

abbrev pub invariant-loop-r : goal.invariant-loop-r
invariant-loop-r l = Coloring (puzzle_given l.given) l.rule l.x l.y l.initial.out l.at l.out l.to l.r
