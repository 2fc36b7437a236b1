use mathlib.Core.Path.{sym, ◌∙◌}
use native.Mathlib.Omega.{arith}
use Rattle.refusals.proofs.Answering.{handed, answers_refused, answers_short, answers_wrote}
use Rattle.lines.proofs.Checks.{length_refused, length_passed}
use Rattle.runs.proofs.line.read_line.Goals as goal

pub returns-then-off_size : goal.returns-then-off_size
returns-then-off_size c = answers_refused _ _ _ (length_refused _ (sym c.off_size.ensures ∙ c.if-off_size.true))

pub returns-in_err-check_bytes : goal.returns-in_err-check_bytes
returns-in_err-check_bytes c = rw (handed c.from_residual.result c.from_residual.ensures.1) (answers_refused _ _ _ (c.in_err-check_bytes.ensures ∙ length_passed _ (sym c.off_size.ensures ∙ c.if-off_size.false)))

pub returns-then-out-need : goal.returns-then-out-need
returns-then-out-need c = answers_short _ _ (c.in_ok-check_bytes.ensures ∙ length_passed _ (sym c.off_size.ensures ∙ c.if-off_size.false)) c.count_words-need.ensures c.if-out-need.true

pub returns : goal.returns
returns c = answers_wrote _ _ (c.in_ok-check_bytes.ensures ∙ length_passed _ (sym c.off_size.ensures ∙ c.if-off_size.false)) (omega (arith, c.count_words-need.ensures, c.if-out-need.false)) c.from_line.ensures
