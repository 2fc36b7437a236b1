-- Families 5 and 6 as they are written: the blocks one after another, and of a pair its conflicts in rows.
use Rattle.std.specs.Prelude.{List, ℕ, suc, ◌+◌, ◌-◌}
use Rattle.lists.specs.Each.{each}
use Rattle.sections.specs.Sections.{Clause, row}
use Rattle.numbering.specs.Variables.{Line, many}
use Rattle.placement.specs.Placement.{conflicts}

-- a row for each of p positions; the first d rows are empty
abbrev pub rows_from : ℕ → ℕ → ℕ → ℕ → List Clause
rows_from va vb d p = each p (λ i. row (va + i) vb (i + 1 - d))

-- block a with each later one
unfoldable pub later_pairs : Line → ℕ → List Clause
later_pairs L a = each (many L - suc a) (λ k. conflicts L a (suc a + k))
