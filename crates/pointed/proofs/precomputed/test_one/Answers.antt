use Rattle.truth.proofs.RowTests.{one_true, one_false}
use mathlib.Core.Path.{◌∙◌}
use Rattle.pointed.proofs.precomputed.test_one.Goals as goal

pub returns-then-holds : goal.returns-then-holds
returns-then-holds c = λ β cs e. one_true β _ cs (e ∙ c.if-holds.true)

pub returns : goal.returns
returns c = λ β cs e. one_false β _ cs (e ∙ c.if-holds.false)
