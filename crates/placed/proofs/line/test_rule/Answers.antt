use Rattle.placement.specs.Placement.{ruled}
use Rattle.placed.proofs.line.test_rule.Goals as goal

pub test_positions-requires : goal.test_positions-requires
unfolding ruled
test_positions-requires c = rw c.in-Positions.is at c.requires

pub test_once-requires : goal.test_once-requires
unfolding ruled
test_once-requires c = rw c.in-Once.is at c.requires

pub test_overlaps-requires : goal.test_overlaps-requires
unfolding ruled
test_overlaps-requires c = rw c.in-Overlap.is at c.requires

pub returns-in-Positions : goal.returns-in-Positions
unfolding ruled
returns-in-Positions c = rw c.in-Positions.is c.test_positions.ensures

pub returns-in-Once : goal.returns-in-Once
unfolding ruled
returns-in-Once c = rw c.in-Once.is c.test_once.ensures

pub returns-in-Overlap : goal.returns-in-Overlap
unfolding ruled
returns-in-Overlap c = rw c.in-Overlap.is c.test_overlaps.ensures
