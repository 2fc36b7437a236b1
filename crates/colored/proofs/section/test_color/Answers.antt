use native.Mathlib.Omega.{arith}
use Rattle.colored.proofs.Sides.{two_sides, two_clauses}
use Rattle.colored.proofs.section.test_color.Goals as goal

pub test_support-requires : goal.test_support-requires
test_support-requires c = (omega arith, omega arith, c.requires.width_value.3, two_clauses _ c.args.ask _ _ _ _ c.in-Color.is c.requires.countable)

pub test_spaces-requires-clause-countable : goal.test_spaces-requires-clause-countable
test_spaces-requires-clause-countable c = rw (two_sides _ c.args.ask _ _ _ c.in-Space.is) at c.requires.countable

pub returns-in-Color : goal.returns-in-Color
returns-in-Color c = rw (two_sides _ c.args.ask _ _ _ c.in-Color.is) c.test_support.ensures

pub returns-in-Space : goal.returns-in-Space
returns-in-Space c = rw (two_sides _ c.args.ask _ _ _ c.in-Space.is) c.test_spaces.ensures
