use Rattle.truth.specs.Truth.{value}
use Rattle.numbering.specs.Held.{line_in}
use Rattle.placed.proofs.SomePosition.{BlocksTesting, BlockTesting}
use Rattle.placed.proofs.line.test_positions.Given as goal

abbrev pub invariant-loop-i : goal.invariant-loop-i
invariant-loop-i l = BlockTesting (value l.fn.trial.model.now) l.at (line_in l.fn.trial.line) l.b l.first l.i

abbrev pub invariant-clauses : goal.invariant-clauses
invariant-clauses l = BlocksTesting (value l.fn.trial.model.now) l.at (line_in l.fn.trial.line) l.b
