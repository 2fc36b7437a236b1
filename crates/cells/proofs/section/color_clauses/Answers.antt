use Prim.Native.Nat.{◌+◌}
use Rattle.numbering.specs.Held.{puzzle_in}
use Rattle.cells.specs.Asked.{asked}
use Rattle.cells.proofs.Asking.{both_first, both_second, both_wrote}
use Rattle.cells.proofs.section.color_clauses.Goals as goal

pub cover_line-to-requires-clause-t_in_bounds : goal.cover_line-to-requires-clause-t_in_bounds
cover_line-to-requires-clause-t_in_bounds c = both_first _ (asked (puzzle_in c.args.lines) c.args.ask (c.args.width + c.args.y) c.args.x) c.args.out.now _ c.requires.x_in_bounds

pub cover_line-requires-clause-t_in_bounds : goal.cover_line-requires-clause-t_in_bounds
cover_line-requires-clause-t_in_bounds c = both_second _ _ _ _ c.requires.x_in_bounds c.cover_line-to.ensures

pub returns : goal.returns
returns c = both_wrote _ _ _ _ c.requires.x_in_bounds c.cover_line-to.ensures c.cover_line.ensures
