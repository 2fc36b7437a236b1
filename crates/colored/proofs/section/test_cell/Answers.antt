use mathlib.Core.Path.{◌≡◌, refl, sym, ◌∙◌}
use native.Mathlib.Omega.{arith}
use lib.ListN.{length}
use Rattle.refusals.proofs.Answering.{handed}
use Rattle.truth.proofs.Testing.{testing_first}
use Rattle.cells.proofs.BoardCells.{cell_at, given_holds, given_shows, cell_is}
use Rattle.colored.proofs.EachTests.{cell_room, cell_stop, cell_next, cell_done}
use Rattle.colored.proofs.ModelVariables.{color_within}
use Rattle.colored.proofs.section.test_cell.Goals as goal

-- `first` in these answers: the first variable, by the board

pub loop-r-init : goal.loop-r-init
loop-r-init c = testing_first _ _ _ _ _ refl

pub test_color-requires-clause-width_value : goal.test_color-requires-clause-width_value
test_color-requires-clause-width_value c =
    let G = given_holds c.args.claim.given in
    let first : c.cell_first-first.result ≡ cell_at c.args.claim.given.reading.board (length c.args.claim.given.palette.now) c.args.x c.args.y = c.cell_first-first.ensures.value ∙ sym (cell_is (given_shows G) _ _) in
    rw (c.trial-trial.ensures.puzzle, c.trial-trial.ensures.model, first) (
      G.stands.width_is,
      c.requires.x_lt_width.0,
      omega (arith, c.requires.x_lt_width.1, G.stands.height_is),
      color_within c.args.claim.model.now _ c.args.claim.known (given_shows G) _ _ c.requires.x_lt_width.0 c.requires.x_lt_width.1 _ (omega arith),
    )

pub test_color-requires-clause-countable : goal.test_color-requires-clause-countable
test_color-requires-clause-countable c =
    let G = given_holds c.args.claim.given in
    let first : c.cell_first-first.result ≡ cell_at c.args.claim.given.reading.board (length c.args.claim.given.palette.now) c.args.x c.args.y = c.cell_first-first.ensures.value ∙ sym (cell_is (given_shows G) _ _) in
    rw (c.trial-trial.ensures.puzzle, first) (cell_room G c.args.rule _ _ c.loop-r.invariant (omega arith) c.requires.countable)

pub returns-in_err-to : goal.returns-in_err-to
returns-in_err-to c =
    let G = given_holds c.args.claim.given in
    let first : c.cell_first-first.result ≡ cell_at c.args.claim.given.reading.board (length c.args.claim.given.palette.now) c.args.x c.args.y = c.cell_first-first.ensures.value ∙ sym (cell_is (given_shows G) _ _) in
    rw (handed c.from_residual.result c.from_residual.ensures.1) (cell_stop G c.args.rule _ _ c.loop-r.invariant (omega arith) _ (rw (c.trial-trial.ensures.puzzle, c.trial-trial.ensures.model, first) at c.in_err-to.ensures))

pub loop-r-preserved : goal.loop-r-preserved
loop-r-preserved c =
    let G = given_holds c.args.claim.given in
    let first : c.cell_first-first.result ≡ cell_at c.args.claim.given.reading.board (length c.args.claim.given.palette.now) c.args.x c.args.y = c.cell_first-first.ensures.value ∙ sym (cell_is (given_shows G) _ _) in
    cell_next G c.args.rule _ _ c.loop-r.invariant (omega arith) (rw (c.trial-trial.ensures.puzzle, c.trial-trial.ensures.model, first) at c.in_ok-to.ensures)

pub returns : goal.returns
returns c = cell_done (given_holds c.args.claim.given) c.args.rule c.args.x c.args.y c.loop-r.invariant (omega arith)
