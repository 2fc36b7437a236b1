use mathlib.Core.Path.{◌≡◌, ◌∙◌}
use Prim.Native.Nat.{◌<◌}
use Rattle.cells.proofs.Ruling.{support_kept, support_space, support_size, support_wrote}
use native.Mathlib.Omega.{arith}
use lib.ListN.{length, length-set}
use Rattle.literals.proofs.Words.{word_is}
use Rattle.cells.proofs.support.cell_color_clauses.Goals as goal

pub bounds-out-at : goal.bounds-out-at
bounds-out-at c = omega (arith, c.requires.found_in_bounds, support_size c.args.found.now c.args.v)

pub put_found-to-requires-clause-found_in_bounds : goal.put_found-to-requires-clause-found_in_bounds
put_found-to-requires-clause-found_in_bounds c = simp length-set (omega (arith, c.requires.found_in_bounds, support_size c.args.found.now c.args.v))

pub bounds-out-to : goal.bounds-out-to
bounds-out-to c =
    let space : (c.put_found-to.result < length c.put_found-to.new.out) × (length c.put_found-to.new.out ≡ length c.args.out.now) = (support_space _ _ c.args.out.now _ c.requires.found_in_bounds _ c.put_found-to.ensures, support_kept _ _ c.args.out.now _ c.requires.found_in_bounds _ c.put_found-to.ensures) in
    space.0

pub returns : goal.returns
returns c = support_wrote _ _ _ _ c.requires.found_in_bounds _ c.put_found-to.ensures (word_is c.count_word.result c.count_word.type_inv ∙ c.count_word.ensures) (word_is c.no.result c.no.type_inv ∙ c.no.ensures)
