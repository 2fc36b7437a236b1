use native.Mathlib.Omega.{arith}
use borrow.Author.Rules.{rules}
use Rattle.std.proofs.lemmas.Slice.Eq.{text_from_reads}
use Rattle.cases.proofs.entry.named.Goals as goal

pub returns-in-102 : goal.returns-in-102
returns-in-102 c = text_from_reads _ _ (omega arith) (search rules)

pub returns-in-99 : goal.returns-in-99
returns-in-99 c = text_from_reads _ _ (omega arith) (search rules)

pub returns-in-99-2 : goal.returns-in-99-2
returns-in-99-2 c = text_from_reads _ _ (omega arith) (search rules)
