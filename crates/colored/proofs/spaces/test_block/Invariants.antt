use Rattle.truth.specs.Truth.{value}
use Rattle.lines.specs.Runs.{run}
use Rattle.colored.proofs.SpaceTests.{BlockTesting}
use Rattle.colored.proofs.spaces.test_block.Given as goal

abbrev pub invariant-loop-i : goal.invariant-loop-i
invariant-loop-i l = BlockTesting (value l.model) l.v l.u l.p (run l.block) l.t l.at l.to l.i
