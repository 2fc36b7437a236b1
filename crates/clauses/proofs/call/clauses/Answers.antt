use native.Mathlib.Omega.{arith}
use Rattle.refusals.proofs.Answering.{answers_short, answers_wrote}
use Rattle.clauses.proofs.call.clauses.Goals as goal

pub returns-then-out-counts : goal.returns-then-out-counts
returns-then-out-counts c = answers_short _ _ c.in_ok-board.ensures.checked (rw (← c.new-reading.ensures.puzzle) c.count_all-counts.ensures.words_is) c.if-out-counts.true

pub returns : goal.returns
returns c =
    answers_wrote _ _ c.in_ok-board.ensures.checked (rw (← c.new-reading.ensures.puzzle) (omega (arith, c.count_all-counts.ensures.words_is, c.if-out-counts.false)))
    (rw (← c.new-reading.ensures.puzzle) c.write_sections.ensures)
