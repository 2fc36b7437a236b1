use Rattle.refusals.proofs.Answering.{handed}
use Rattle.truth.proofs.JoinedTests.{joined_first, joined_stop, joined_second, joined_done}
use Rattle.colored.specs.Held.{puzzle_claimed}
use Rattle.checker.proofs.SectionTests.{all_are, all_countable}
use Rattle.checker.proofs.families.test_sections.Goals as goal

pub test_line_sections-requires : goal.test_line_sections-requires
test_line_sections-requires c = joined_first _ _ _ (rw (all_are (puzzle_claimed c.args.claim)) at (all_countable (puzzle_claimed c.args.claim) c.args.claim.given.reading.lines.ready.good))

pub returns-in_err-seventh : goal.returns-in_err-seventh
returns-in_err-seventh c = rw (handed c.from_residual.result c.from_residual.ensures.1, all_are (puzzle_claimed c.args.claim)) (joined_stop _ _ _ _ _ c.in_err-seventh.ensures)

pub test_cell_sections-requires : goal.test_cell_sections-requires
test_cell_sections-requires c = joined_second _ _ _ _ c.in_ok-seventh.ensures (rw (all_are (puzzle_claimed c.args.claim)) at (all_countable (puzzle_claimed c.args.claim) c.args.claim.given.reading.lines.ready.good))

pub returns : goal.returns
returns c = rw (all_are (puzzle_claimed c.args.claim)) (joined_done _ _ _ _ c.in_ok-seventh.ensures c.test_cell_sections.ensures)
