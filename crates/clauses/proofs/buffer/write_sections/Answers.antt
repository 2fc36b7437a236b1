use mathlib.Core.Path.{refl}
use mathlib.Core.List.{[], ◌++◌}
use Rattle.numbering.specs.Held.{puzzle_read}
use Rattle.clauses.specs.Groups.{line_sections, cell_sections}
use Rattle.clauses.proofs.Tails.{Writing, writing_first, writing_front, writing_room, writing_next, writing_whole, writing_done, all_sections}
use Rattle.clauses.proofs.buffer.write_sections.Goals as goal
use Rattle.clauses.proofs.buffer.write_sections.Goals.{After-write_line_sections-at}

-- behind section 6
lines : (c : After-write_line_sections-at) → let z = puzzle_read c.args.reading in Writing (line_sections z ++ cell_sections z) (cell_sections z) c.args.out.now c.write_line_sections-at.new.out c.write_line_sections-at.result
lines c =
    let z = puzzle_read c.args.reading in
    writing_whole (line_sections z) (cell_sections z) (writing_first _ _ (rw (all_sections z) at c.requires.words_in_bounds)) c.write_line_sections-at.ensures

pub write_line_sections-at-requires-clause-words_in_bounds : goal.write_line_sections-at-requires-clause-words_in_bounds
write_line_sections-at-requires-clause-words_in_bounds c =
    let z = puzzle_read c.args.reading in
    writing_front (line_sections z) (cell_sections z) (writing_first _ _ (rw (all_sections z) at c.requires.words_in_bounds)) refl

pub write_cell_sections-requires-clause-words_in_bounds : goal.write_cell_sections-requires-clause-words_in_bounds
write_cell_sections-requires-clause-words_in_bounds c = writing_room (cell_sections (puzzle_read c.args.reading)) [] (lines (goal.at.write_cell_sections-requires-clause-words_in_bounds c).After-write_line_sections-at)

pub returns : goal.returns
returns c =
    let z = puzzle_read c.args.reading in
    rw (all_sections z) (writing_done (writing_next (cell_sections z) [] (lines (goal.at.returns c).After-write_line_sections-at) c.write_cell_sections.ensures))
