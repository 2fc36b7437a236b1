use mathlib.Core.Path.{refl}
use native.Mathlib.Omega.{arith}
use Rattle.refusals.proofs.Answering.{answers_wrote}
use Rattle.formulas.specs.Clauses.{clauses_in}
use Rattle.dimacs.proofs.HeaderLine.{text_long}
use Rattle.dimacs.proofs.LineLoops.{few_first, bytes_few}
use Rattle.dimacs.proofs.call.write_text.Goals as goal

pub overflow_add-need : goal.overflow_add-need
overflow_add-need c = omega (arith, c.count_header.ensures.few, c.count_lines-size.ensures.bytes_are, bytes_few (few_first c.args.formula.formed))

pub returns : goal.returns
returns c = answers_wrote _ _ refl (omega (arith, c.count_header.ensures.as_written, c.count_lines-size.ensures.bytes_are, text_long c.args.variables (clauses_in c.args.formula.words.now) c.count_lines-size.ensures.clauses_are, c.if-out-need.false)) c.put_text.ensures
