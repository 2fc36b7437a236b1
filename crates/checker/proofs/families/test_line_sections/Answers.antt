use Rattle.refusals.proofs.Answering.{handed}
use Rattle.truth.proofs.JoinedTests.{joined_first, joined_stop, joined_second, joined_done}
use Rattle.colored.specs.Held.{puzzle_claimed}
use Rattle.checker.proofs.SectionTests.{lines_are}
use Rattle.checker.proofs.families.test_line_sections.Goals as goal

pub test_both-requires : goal.test_both-requires
test_both-requires c = joined_first _ _ _ (rw (lines_are (puzzle_claimed c.args.claim)) at c.requires)

pub returns-in_err-third : goal.returns-in_err-third
returns-in_err-third c = rw (handed c.from_residual.result c.from_residual.ensures.1, lines_are (puzzle_claimed c.args.claim)) (joined_stop _ _ _ _ _ c.in_err-third.ensures)

pub test_both-requires-2 : goal.test_both-requires-2
test_both-requires-2 c = joined_first _ _ _ (joined_second _ _ _ _ c.in_ok-third.ensures (rw (lines_are (puzzle_claimed c.args.claim)) at c.requires))

pub returns-in_err-fifth : goal.returns-in_err-fifth
returns-in_err-fifth c = rw (handed c.from_residual-in_err-fifth.result c.from_residual-in_err-fifth.ensures.1, lines_are (puzzle_claimed c.args.claim)) (joined_done _ _ _ _ c.in_ok-third.ensures (joined_stop _ _ _ _ _ c.in_err-fifth.ensures))

pub test_both-requires-3 : goal.test_both-requires-3
test_both-requires-3 c = joined_second _ _ _ _ c.in_ok-fifth.ensures (joined_second _ _ _ _ c.in_ok-third.ensures (rw (lines_are (puzzle_claimed c.args.claim)) at c.requires))

pub returns : goal.returns
returns c = rw (lines_are (puzzle_claimed c.args.claim)) (joined_done _ _ _ _ c.in_ok-third.ensures (joined_done _ _ _ _ c.in_ok-fifth.ensures c.test_both-3.ensures))
