use Rattle.truth.specs.Truth.{value}
use Rattle.placed.specs.Held.{puzzle_tried}
use Rattle.colored.specs.Sides.{on_side}
use Rattle.colored.proofs.CoveredTests.{Seeking, SidesTesting}
use Rattle.colored.proofs.support.test_support.Given as goal

abbrev pub invariant-loop-u : goal.invariant-loop-u
invariant-loop-u l = Seeking (value l.fn.trial.model.now) (on_side (puzzle_tried l.fn.trial) l.color l.x l.row l.y l.side) l.u-index

abbrev pub invariant-clauses : goal.invariant-clauses
invariant-clauses l = SidesTesting (value l.fn.trial.model.now) (puzzle_tried l.fn.trial) l.color l.v l.x l.row l.y l.at l.side
