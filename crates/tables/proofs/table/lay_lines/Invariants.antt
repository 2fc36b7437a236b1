use Rattle.tables.proofs.Laying.{LayingLines}
use Rattle.puzzles.specs.Checks.{puzzle}
use Rattle.puzzles.specs.Puzzle as P
use lib.ListN.{length}
use Prim.Native.Nat.{◌-◌}
use mathlib.Core.Path.{◌≡◌}
use Rattle.tables.proofs.table.lay_lines.Given as goal

abbrev pub invariant-loop-l : goal.invariant-loop-l
invariant-loop-l l = (l.l-end ≡ P.lines (puzzle l.words)) × ((length l.table ≡ length l.initial.table) × LayingLines (puzzle l.words) l.table l.l l.at l.first)

abbrev pub decreases-loop-l : goal.decreases-loop-l
decreases-loop-l l = P.lines (puzzle l.words) - l.l
