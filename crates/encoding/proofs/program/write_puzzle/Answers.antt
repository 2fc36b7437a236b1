use mathlib.Core.Path.{refl, sym}
use Rattle.refusals.proofs.Answering.{handed, answers_refused}
use Rattle.encoding.proofs.PuzzleText.{counts_refused, counts_variables, clauses_told, text_answers}
use Rattle.encoding.proofs.program.write_puzzle.Goals as goal

pub returns-in_err-counts : goal.returns-in_err-counts
returns-in_err-counts c = rw (handed c.from_residual.result c.from_residual.ensures.1) (answers_refused _ _ _ (counts_refused c.args.words.now refl _ c.in_err-counts.ensures))

pub returns-in_err-n : goal.returns-in_err-n
returns-in_err-n c = rw (handed _ c.from_residual-in_err-n.ensures.1) (answers_refused _ _ _ (clauses_told c.args.words.now (sym c.clause_buffer-buffer.ensures) _ c.in_err-n.ensures))

pub returns : goal.returns
returns c = text_answers c.args.words.now (sym c.clause_buffer-buffer.ensures) c.in_ok-n.ensures (counts_variables c.args.words.now refl c.in_ok-counts.ensures) c.dimacs.ensures
