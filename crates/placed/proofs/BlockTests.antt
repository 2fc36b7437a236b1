-- The loops that test a pair of blocks of a line, or the rows of a pair.
use mathlib.Core.Path.{◌≡◌}
use Prim.Native.Nat.{ℕ, ◌+◌, ◌-◌}
use Rattle.lists.proofs.Eaches.{rest}
use Rattle.sections.specs.Sections.{row}
use Rattle.numbering.specs.Variables.{Line, many}
use Rattle.placement.specs.Placement.{conflicts}
use Rattle.placement.specs.PairRows.{rows_from, later_pairs}
use Rattle.placement.proofs.BlockLoops.{later_are}
use Rattle.placement.proofs.RowLaw.{rows_late}

pub later_rest : (L : Line) (a : ℕ) → later_pairs L a ≡ rest (a + 1) (many L) (conflicts L a)
unfolding rest
later_rest L a = later_are L a

pub rows_rest : (va vb d p : ℕ) → rows_from va vb d p ≡ rest d p (λ i. row (va + i) vb (i + 1 - d))
unfolding rest
rows_rest va vb d p = rows_late va vb d p
