use Rattle.models.proofs.Showing.{Looking}
use Rattle.truth.specs.Truth.{value}
use Rattle.models.proofs.picture.color_of.Given as goal

abbrev pub invariant-loop-r : goal.invariant-loop-r
invariant-loop-r l = Looking (value l.model) l.v l.palette l.r
