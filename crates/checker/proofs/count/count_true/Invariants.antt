use Rattle.checker.specs.Models.{trues}
use Rattle.truth.specs.Truth.{value}
use mathlib.Core.Path.{◌≡◌}
use Rattle.checker.proofs.count.count_true.Given as goal

abbrev pub invariant-loop-r : goal.invariant-loop-r
invariant-loop-r l = l.total ≡ trues (value l.model) l.v l.r
