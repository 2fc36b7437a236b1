use Prim.Native.Nat.{◌+◌, ◌-◌, ◌≤◌}
use Rattle.sections.specs.Sections.{row}
use Rattle.truth.specs.Truth.{value}
use Rattle.truth.proofs.Testing.{Testing}
use Rattle.placement.specs.PairRows.{rows_from}
use Rattle.placed.proofs.overlap.test_rows.Given as goal

abbrev pub invariant-loop-i : goal.invariant-loop-i
invariant-loop-i l = (l.d ≤ l.i) × Testing (value l.model) l.at (rows_from l.va l.vb l.d l.p) l.p (λ k. row (l.va + k) l.vb (k + 1 - l.d)) l.to l.i
