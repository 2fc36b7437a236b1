use Rattle.refusals.proofs.Answering.{handed}
use Rattle.truth.proofs.JoinedTests.{joined_first, joined_stop, joined_second, joined_done}
use Rattle.cells.proofs.BoardCells.{given_holds, given_shows}
use Rattle.colored.specs.Held.{puzzle_claimed}
use Rattle.checker.proofs.SectionTests.{cells_are}
use Rattle.checker.proofs.families.test_cell_sections.Goals as goal

pub test_cells-requires : goal.test_cells-requires
test_cells-requires c = joined_first _ _ _ (rw (cells_are (puzzle_claimed c.args.claim)) at c.requires)

pub returns-in_err-eighth : goal.returns-in_err-eighth
returns-in_err-eighth c = rw (handed c.from_residual.result c.from_residual.ensures.1, cells_are (puzzle_claimed c.args.claim)) (joined_stop _ _ _ _ _ c.in_err-eighth.ensures)

pub test_cells-requires-2 : goal.test_cells-requires-2
test_cells-requires-2 c = joined_first _ _ _ (joined_second _ _ _ _ c.in_ok-eighth.ensures (rw (cells_are (puzzle_claimed c.args.claim)) at c.requires))

pub returns-in_err-ninth : goal.returns-in_err-ninth
returns-in_err-ninth c = rw (handed c.from_residual-in_err-ninth.result c.from_residual-in_err-ninth.ensures.1, cells_are (puzzle_claimed c.args.claim)) (joined_done _ _ _ _ c.in_ok-eighth.ensures (joined_stop _ _ _ _ _ c.in_err-ninth.ensures))

pub test_points-requires : goal.test_points-requires
test_points-requires c = (puzzle_claimed c.args.claim, given_shows (given_holds c.args.claim.given), c.args.claim.known, joined_first _ _ _ (joined_second _ _ _ _ c.in_ok-ninth.ensures (joined_second _ _ _ _ c.in_ok-eighth.ensures (rw (cells_are (puzzle_claimed c.args.claim)) at c.requires))))

pub returns-in_err-tenth : goal.returns-in_err-tenth
returns-in_err-tenth c = rw (handed c.from_residual-in_err-tenth.result c.from_residual-in_err-tenth.ensures.1, cells_are (puzzle_claimed c.args.claim)) (joined_done _ _ _ _ c.in_ok-eighth.ensures (joined_done _ _ _ _ c.in_ok-ninth.ensures (joined_stop _ _ _ _ _ (c.in_err-tenth.ensures _ (given_shows (given_holds c.args.claim.given))))))

pub test_precomputed-requires-clause-masked : goal.test_precomputed-requires-clause-masked
test_precomputed-requires-clause-masked c =
    let G = given_holds c.args.claim.given in
    (record { sectioned = G.ready.sectioned; good = G.ready.good; stands = G.stands; palette_is = G.palette_is }, c.args.claim.known)

pub test_precomputed-requires-clause-countable : goal.test_precomputed-requires-clause-countable
test_precomputed-requires-clause-countable c = joined_second _ _ _ _ (c.in_ok-tenth.ensures _ (given_shows (given_holds c.args.claim.given))) (joined_second _ _ _ _ c.in_ok-ninth.ensures (joined_second _ _ _ _ c.in_ok-eighth.ensures (rw (cells_are (puzzle_claimed c.args.claim)) at c.requires)))

pub returns : goal.returns
returns c = rw (cells_are (puzzle_claimed c.args.claim)) (joined_done _ _ _ _ c.in_ok-eighth.ensures (joined_done _ _ _ _ c.in_ok-ninth.ensures (joined_done _ _ _ _ (c.in_ok-tenth.ensures _ (given_shows (given_holds c.args.claim.given))) c.test_precomputed.ensures)))
