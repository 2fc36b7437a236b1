use mathlib.Core.Path.{sym}
use native.Mathlib.Omega.{arith}
use Rattle.refusals.proofs.Answering.{answers_short, answers_wrote}
use Rattle.lines.proofs.Checks.{clue_ok}
use Rattle.ranges.proofs.Ranges.{ranges_words_length, ranges_wrote}
use Rattle.ranges.proofs.range.color_ranges.Goals as goal

-- `ok` in these answers: the clue is accepted

pub returns-then-out-lt62 : goal.returns-then-out-lt62
returns-then-out-lt62 c =
    let ok = clue_ok _ _ c.in_ok-space.ensures in
    answers_short _ _ ok.passes (sym (ranges_words_length _ _)) c.if-out-lt62.true

pub positions_number-slack-requires : goal.positions_number-slack-requires
positions_number-slack-requires c =
    let ok = clue_ok _ _ c.in_ok-space.ensures in
    (ok.fits, ok.most)

pub overflow_cast-slack : goal.overflow_cast-slack
overflow_cast-slack c =
    let ok = clue_ok _ _ c.in_ok-space.ensures in
    omega (arith, ok, c.positions_number-slack.ensures)

pub put_ranges-requires-clause-slack_bound : goal.put_ranges-requires-clause-slack_bound
put_ranges-requires-clause-slack_bound c =
    let ok = clue_ok _ _ c.in_ok-space.ensures in
    omega (arith, ok, c.positions_number-slack.ensures)

pub returns : goal.returns
returns c =
    let ok = clue_ok _ _ c.in_ok-space.ensures in
    answers_wrote _ _ ok.passes (omega (arith, ranges_words_length c.args.length c.args.clue.now, c.if-out-lt62.false))
    (ranges_wrote _ _ c.positions_number-slack.ensures ok.space_is c.put_ranges.ensures)
