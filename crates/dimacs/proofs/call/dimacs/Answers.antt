use Rattle.refusals.proofs.Answering.{answers_checked}
use Rattle.formulas.proofs.Accepting.{accepted_formed, accepted_clauses}
use Rattle.dimacs.proofs.call.dimacs.Goals as goal

pub invariant_of-write_text : goal.invariant_of-write_text
invariant_of-write_text c = record { formed = accepted_formed c.args.variables c.args.sections c.args.words.now (c.in_ok-check_words.ensures) }

pub returns : goal.returns
returns c = answers_checked _ _ (c.in_ok-check_words.ensures) (rw (accepted_clauses c.args.variables c.args.sections c.args.words.now (c.in_ok-check_words.ensures)) at c.write_text.ensures)
