use mathlib.Core.Path.{ap, ◌∙◌}
use native.Mathlib.Omega.{arith}
use lib.IntN.{pos}
use Rattle.literals.proofs.Words.{word_is}
use Rattle.sections.proofs.Section.{count_room, clauses_room, section_wrote}
use Rattle.points.proofs.PointCells.{cells_within, rows_are, masks_variables}
use Rattle.points.proofs.precomputed.write_precomputed.Goals as goal

pub bounds-out-0 : goal.bounds-out-0
bounds-out-0 c = count_room _ _ c.requires.words_in_bounds

pub overflow_add-cells : goal.overflow_add-cells
overflow_add-cells c = omega (arith, cells_within c.requires.masked)

pub offset_bounds-words-cells : goal.offset_bounds-words-cells
offset_bounds-words-cells c = omega (arith, cells_within c.requires.masked)

pub slice_bounds-precomputed_cells_clauses-count : goal.slice_bounds-precomputed_cells_clauses-count
slice_bounds-precomputed_cells_clauses-count c = omega (arith, cells_within c.requires.masked)

pub slice_bounds-precomputed_cells_clauses-start : goal.slice_bounds-precomputed_cells_clauses-start
slice_bounds-precomputed_cells_clauses-start c = omega (arith, cells_within c.requires.masked)

pub precomputed_cells_clauses-requires-clause-v_nonzero : goal.precomputed_cells_clauses-requires-clause-v_nonzero
precomputed_cells_clauses-requires-clause-v_nonzero c = masks_variables c.requires.masked

pub precomputed_cells_clauses-requires-clause-v_in_bounds : goal.precomputed_cells_clauses-requires-clause-v_in_bounds
precomputed_cells_clauses-requires-clause-v_in_bounds c = rw (← rows_are c.requires.masked) (clauses_room _ c.args.out.now c.requires.words_in_bounds _)

pub returns : goal.returns
returns c = section_wrote _ _ c.requires.words_in_bounds _ (word_is c.count_word.result c.count_word.type_inv ∙ c.count_word.ensures ∙ ap pos c.requires.count_value.0) (rw (rows_are c.requires.masked) c.precomputed_cells_clauses.ensures)
