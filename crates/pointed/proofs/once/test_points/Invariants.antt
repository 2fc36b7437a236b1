use Rattle.lists.specs.Each.{each}
use Rattle.truth.specs.Truth.{value}
use Rattle.truth.proofs.Testing.{Testing}
use Rattle.points.specs.Points.{column_once}
use Rattle.pointed.proofs.once.test_points.Given as goal

abbrev pub invariant-loop-x : goal.invariant-loop-x
invariant-loop-x l = Testing (value l.model) l.at (each l.fn.board.width (column_once l.fn.board l.fn.k)) l.fn.board.width (column_once l.fn.board l.fn.k) l.to l.x
