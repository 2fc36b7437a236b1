use mathlib.Core.Path.{ap, ◌∙◌}
use native.Mathlib.Omega.{arith}
use borrow.Author.Tests.{le-ltb}
use Rattle.refusals.specs.Told.{checked}
use Rattle.refusals.proofs.Answering.{handed}
use Rattle.refusals.proofs.Passing.{walked_refused, walked_left, walked_done}
use Rattle.formulas.proofs.Readers.{sections_reader}
use Rattle.formulas.proofs.check.check_words.Goals as goal

pub returns-in_err-end : goal.returns-in_err-end
returns-in_err-end c = ap checked (handed _ c.from_residual.ensures.1) ∙ rw (le-ltb _ _ c.if-variables.false, le-ltb _ _ c.if-sections-gt-SECTIONS.false, le-ltb _ _ c.if-words-gt-WORDS.false) (walked_refused _ _ _ c.in_err-end.ensures)

pub returns-then-end-words : goal.returns-then-end-words
returns-then-end-words c = rw (le-ltb _ _ c.if-variables.false, le-ltb _ _ c.if-sections-gt-SECTIONS.false, le-ltb _ _ c.if-words-gt-WORDS.false) (walked_left _ _ ((sections_reader _ _).only 0 _) c.in_ok-end.ensures (omega (arith, c.if-end-words.true)))

pub returns : goal.returns
returns c = rw (le-ltb _ _ c.if-variables.false, le-ltb _ _ c.if-sections-gt-SECTIONS.false, le-ltb _ _ c.if-words-gt-WORDS.false) (walked_done _ _ ((sections_reader _ _).only 0 _) c.in_ok-end.ensures (omega (arith, c.if-end-words.false)))
