use mathlib.Core.Path.{◌≡◌}
use native.Mathlib.Omega.{arith}
use Rattle.std.proofs.Common.{rules}
use lib.IntN.{pos}
use lib.ListN.{length, length-set}
use Rattle.lists.proofs.Writing.{wrote_after}
use Rattle.literals.proofs.Words.{word_is}
use Rattle.sections.specs.Sections.{clause_words}
use Rattle.sections.proofs.put_clause.Goals as goal

pub bounds-out-at : goal.bounds-out-at
unfolding clause_words
bounds-out-at g c = omega (arith, c.requires.literals_in_bounds)

pub put_slice-requires : goal.put_slice-requires
unfolding clause_words
put_slice-requires g c = rw length-set (omega (arith, c.requires.literals_in_bounds))

pub returns : goal.returns
unfolding clause_words
returns g c =
    let n : length c.args.literals ≡ g.row.N = search rules in
    wrote_after c.args.out.now c.args.at (pos (length c.args.literals)) (omega (arith, c.requires.literals_in_bounds)) (rw (word_is c.count_word.result c.count_word.type_inv, c.count_word.ensures, ← n) at c.put_slice.ensures)
