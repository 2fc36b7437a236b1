use Rattle.models.proofs.Showing.{Coloring}
use Rattle.truth.specs.Truth.{value}
use Rattle.models.proofs.picture.write_colors.Given as goal

abbrev pub invariant-loop-i : goal.invariant-loop-i
invariant-loop-i l = Coloring (value l.model) l.v l.n l.palette l.initial.out l.out l.i
