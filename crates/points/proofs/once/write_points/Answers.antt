use Rattle.lists.proofs.Emitting.{emit_room, emit_next}
use Rattle.points.proofs.PointCells.{once_same, columns_once}
use mathlib.Core.Path.{refl, ap, ◌∙◌}
use native.Mathlib.Omega.{arith}
use lib.IntN.{pos}
use Rattle.literals.proofs.Words.{word_is}
use Rattle.sections.proofs.Section.{count_room, count_first, count_done}
use Rattle.points.proofs.once.write_points.Goals as goal

pub bounds-out-0 : goal.bounds-out-0
bounds-out-0 c = count_room _ _ c.requires.shows.3

pub loop-x-init : goal.loop-x-init
loop-x-init c = (refl, count_first _ _ (columns_once c.requires.shows.1) c.args.out.now c.requires.shows.3 _)

pub point_once_clauses-to-requires-clause-x_in_bounds : goal.point_once_clauses-to-requires-clause-x_in_bounds
point_once_clauses-to-requires-clause-x_in_bounds c = emit_room c.loop-x.invariant.1 (omega arith)

pub loop-x-preserved : goal.loop-x-preserved
loop-x-preserved c = (c.loop-x.invariant.0, emit_next c.loop-x.invariant.1 (omega arith) c.point_once_clauses-to.ensures)

pub returns : goal.returns
returns c = λ z S. rw (once_same c.requires.shows.1 S) at (count_done _ _ (columns_once c.requires.shows.1) c.args.out.now c.requires.shows.3 _ (word_is c.count_word.result c.count_word.type_inv ∙ c.count_word.ensures ∙ ap pos c.requires.shows.2) c.loop-x.invariant.1 (omega arith))
