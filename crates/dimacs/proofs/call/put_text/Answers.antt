use Rattle.formulas.specs.Clauses.{clauses_in}
use Rattle.dimacs.proofs.HeaderLine.{text_wrote}
use Rattle.dimacs.proofs.call.put_text.Goals as goal

pub returns : goal.returns
returns c = text_wrote c.args.variables (clauses_in c.args.formula.words.now) c.requires.0 c.put_header-at.ensures c.put_lines.ensures
