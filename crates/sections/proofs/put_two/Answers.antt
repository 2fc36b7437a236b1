use native.Mathlib.Omega.{arith}
use Rattle.sections.specs.Sections.{clause_words}
use Rattle.literals.proofs.Words.{word_is}
use Rattle.sections.proofs.put_two.Goals as goal

pub put_clause-requires : goal.put_clause-requires
unfolding clause_words
put_clause-requires c = (omega arith, (omega arith, c.requires))

pub returns : goal.returns
returns c = rw (word_is c.args.a c.ranges.a.sfits, word_is c.args.b c.ranges.b.sfits) at c.put_clause.ensures
