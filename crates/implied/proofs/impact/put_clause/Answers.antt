use native.Mathlib.Omega.{arith}
use mathlib.Core.Path.{◌∙◌}
use lib.ListN.{length-set}
use Rattle.literals.proofs.Words.{word_is}
use Rattle.implied.proofs.CellClauses.{clause_room, literal_room, clause_wrote}
use Rattle.implied.proofs.impact.put_clause.Goals as goal

pub bounds-out-at : goal.bounds-out-at
bounds-out-at c = omega (arith, clause_room c.args.premise.literals.now c.args.literal c.args.out.now c.args.at c.requires)

pub slice_bounds-copy_from_slice-end : goal.slice_bounds-copy_from_slice-end
slice_bounds-copy_from_slice-end c = simp length-set (omega (arith, clause_room c.args.premise.literals.now c.args.literal c.args.out.now c.args.at c.requires))

pub bounds-out-to : goal.bounds-out-to
bounds-out-to c = literal_room c.args.premise.literals.now c.args.literal c.args.out.now c.args.at c.requires _ c.copy_from_slice.ensures.after (omega arith)

pub returns : goal.returns
returns c = rw (word_is c.args.literal c.ranges.literal.sfits) (clause_wrote c.args.premise.literals.now c.args.literal c.args.out.now c.args.at c.requires _ c.copy_from_slice.ensures.after (omega arith) (word_is c.count_word.result c.count_word.type_inv ∙ c.count_word.ensures))
