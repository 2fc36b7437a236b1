use Rattle.refusals.proofs.Answering.{handed}
use Rattle.truth.proofs.JoinedTests.{joined_first, joined_stop, joined_second, joined_done}
use Rattle.checker.proofs.SectionTests.{both_are}
use Rattle.checker.proofs.families.test_both.Goals as goal

-- `split` in these answers: the columns, then the rows

pub test_lines-requires-clause-countable : goal.test_lines-requires-clause-countable
test_lines-requires-clause-countable c =
    let split = both_are _ c.args.rule c.args.claim.given.reading.stands in
    rw c.trial-trial.ensures.puzzle (joined_first _ _ _ (rw split at c.requires))

pub returns-in_err-next : goal.returns-in_err-next
returns-in_err-next c =
    let split = both_are _ c.args.rule c.args.claim.given.reading.stands in
    rw (handed c.from_residual.result c.from_residual.ensures.1, split) (joined_stop _ _ _ _ _ (rw (c.trial-trial.ensures.puzzle, c.trial-trial.ensures.model) at c.in_err-next.ensures))

pub test_lines-requires-2-clause-countable : goal.test_lines-requires-2-clause-countable
test_lines-requires-2-clause-countable c =
    let split = both_are _ c.args.rule c.args.claim.given.reading.stands in
    rw c.trial-trial.ensures.puzzle (joined_second _ _ _ _ (rw (c.trial-trial.ensures.puzzle, c.trial-trial.ensures.model) at c.in_ok-next.ensures) (rw split at c.requires))

pub returns : goal.returns
returns c =
    let split = both_are _ c.args.rule c.args.claim.given.reading.stands in
    rw split (joined_done _ _ _ _ (rw (c.trial-trial.ensures.puzzle, c.trial-trial.ensures.model) at c.in_ok-next.ensures) (rw (c.trial-trial.ensures.puzzle, c.trial-trial.ensures.model) at c.test_lines-2.ensures))
