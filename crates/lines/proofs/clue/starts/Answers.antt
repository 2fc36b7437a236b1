use mathlib.Core.Path.{sym}
use native.Mathlib.Omega.{arith}
use Rattle.refusals.proofs.Answering.{answers_short, answers_wrote}
use Rattle.lines.proofs.Checks.{clue_ok}
use Rattle.lines.proofs.ClueWords.{starts_words_length, starts_wrote}
use Rattle.lines.proofs.clue.starts.Goals as goal

pub returns-then-out-need : goal.returns-then-out-need
returns-then-out-need c = answers_short _ _ (clue_ok _ _ c.in_ok-space.ensures).passes (sym (starts_words_length _ _)) c.if-out-need.true

pub positions_number-requires : goal.positions_number-requires
positions_number-requires c =
    let ok = clue_ok _ _ c.in_ok-space.ensures in
    (ok.fits, ok.most)

pub overflow_cast-out : goal.overflow_cast-out
overflow_cast-out c = omega (arith, clue_ok _ _ c.in_ok-space.ensures, c.positions_number.ensures)

pub overflow_cast-out-2 : goal.overflow_cast-out-2
overflow_cast-out-2 c = omega (arith, clue_ok _ _ c.in_ok-space.ensures)

pub block_starts-requires-clause-clue_bound : goal.block_starts-requires-clause-clue_bound
block_starts-requires-clause-clue_bound c = omega (arith, clue_ok _ _ c.in_ok-space.ensures)

pub returns : goal.returns
returns c =
    let ok = clue_ok _ _ c.in_ok-space.ensures in
    answers_wrote _ _ ok.passes (omega (arith, starts_words_length c.args.length c.args.clue.now, c.if-out-need.false))
    (starts_wrote _ _ _ c.positions_number.ensures ok.space_is (omega (arith, c.if-out-need.false)) c.block_starts.ensures)
