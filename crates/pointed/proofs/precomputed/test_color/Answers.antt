use mathlib.Core.Path.{sym, ap, ◌∙◌}
use Rattle.points.proofs.Masks.{solved_blank, solved_color, solved_other, unsolved_open, unsolved_excluded}
use Rattle.pointed.proofs.UnitTests.{unit_room, unit_negative, unit_positive, none_tested}
use mathlib.Core.Bool.{not}
use Rattle.pointed.proofs.precomputed.test_color.Goals as goal

pub test_one-requires : goal.test_one-requires
test_one-requires c = unit_room _ _ _ (solved_blank c.args.mask _ _ (sym c.solved.ensures ∙ c.if-solved.true) (sym c.has.ensures ∙ c.if-has.true)) c.requires.countable

pub returns-then-has : goal.returns-then-has
returns-then-has c = unit_negative _ _ _ _ c.test_one.result c.test_one.ensures (solved_blank c.args.mask _ _ (sym c.solved.ensures ∙ c.if-solved.true) (sym c.has.ensures ∙ c.if-has.true)) c.requires.of.0 (ap not c.on.ensures)

pub test_one-requires-then-there : goal.test_one-requires-then-there
test_one-requires-then-there c = unit_room _ _ _ (solved_color c.args.mask _ _ (sym c.solved.ensures ∙ c.if-solved.true) (sym c.has.ensures ∙ c.if-has.false) (sym c.has-there.ensures ∙ c.if-there.true)) c.requires.countable

pub returns-then-there : goal.returns-then-there
returns-then-there c = unit_positive _ _ _ _ c.test_one-then-there.result c.test_one-then-there.ensures (solved_color c.args.mask _ _ (sym c.solved.ensures ∙ c.if-solved.true) (sym c.has.ensures ∙ c.if-has.false) (sym c.has-there.ensures ∙ c.if-there.true)) c.on-then-there.ensures

pub returns-then-solved : goal.returns-then-solved
returns-then-solved c = none_tested _ _ _ (solved_other c.args.mask _ _ (sym c.solved.ensures ∙ c.if-solved.true) (sym c.has.ensures ∙ c.if-has.false) (sym c.has-there.ensures ∙ c.if-there.false))

pub returns-then-there-2 : goal.returns-then-there-2
returns-then-there-2 c = none_tested _ _ _ (unsolved_open c.args.mask _ _ (sym c.solved.ensures ∙ c.if-solved.false) (sym c.has-there.ensures ∙ c.if-there-2.true))

pub test_one-requires-2 : goal.test_one-requires-2
test_one-requires-2 c = unit_room _ _ _ (unsolved_excluded c.args.mask _ _ (sym c.solved.ensures ∙ c.if-solved.false) (sym c.has-there.ensures ∙ c.if-there-2.false)) c.requires.countable

pub returns : goal.returns
returns c = unit_negative _ _ _ _ c.test_one-2.result c.test_one-2.ensures (unsolved_excluded c.args.mask _ _ (sym c.solved.ensures ∙ c.if-solved.false) (sym c.has-there.ensures ∙ c.if-there-2.false)) c.requires.of.0 (ap not c.on-2.ensures)
