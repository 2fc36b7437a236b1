use Rattle.truth.specs.Truth.{value}
use Rattle.numbering.specs.Held.{line_in}
use Rattle.colored.proofs.SpaceTests.{BlocksTesting}
use Rattle.colored.proofs.spaces.test_line.Given as goal

abbrev pub invariant-loop-b : goal.invariant-loop-b
invariant-loop-b l = BlocksTesting (value l.fn.trial.model.now) l.v (line_in l.fn.trial.line) l.color l.t l.at l.to l.b
