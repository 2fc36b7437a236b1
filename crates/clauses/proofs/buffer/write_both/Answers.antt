use mathlib.Core.Path.{refl}
use mathlib.Core.List.{[], ◌∷◌}
use Rattle.placement.specs.Placement.{of_columns, of_rows}
use Rattle.numbering.specs.Held.{puzzle_read}
use Rattle.clauses.specs.Groups.{both}
use Rattle.clauses.proofs.Tails.{Writing, writing_first, writing_front, writing_room, writing_next, writing_whole, one_wrote, one_room, writing_done}
use Rattle.clauses.proofs.Asked.{columns_are, columns_few, rows_are, rows_few}
use Rattle.clauses.proofs.buffer.write_both.Goals as goal
use Rattle.clauses.proofs.buffer.write_both.Goals.{After-write_lines-at}

-- behind the columns
columns : (c : After-write_lines-at) → let z = puzzle_read c.args.reading in Writing (both z c.args.rule) (of_rows z c.args.rule ∷ []) c.args.out.now c.write_lines-at.new.out c.write_lines-at.result
columns c =
    let z = puzzle_read c.args.reading in
    writing_whole (of_columns z c.args.rule ∷ []) (of_rows z c.args.rule ∷ []) (writing_first _ _ c.requires.rule_in_bounds) (one_wrote _ (rw (columns_are z c.args.reading.stands c.args.rule) at c.write_lines-at.ensures))

pub write_lines-at-requires-clause-count_value : goal.write_lines-at-requires-clause-count_value
write_lines-at-requires-clause-count_value c = rw (columns_are _ c.args.reading.stands c.args.rule) (c.requires.columns_value.0, columns_few _ c.args.reading.lines.ready.good _ c.requires.columns_value.0)

pub write_lines-at-requires-clause-n_in_bounds : goal.write_lines-at-requires-clause-n_in_bounds
write_lines-at-requires-clause-n_in_bounds c =
    let z = puzzle_read c.args.reading in
    rw (columns_are z c.args.reading.stands c.args.rule) (one_room _ (writing_front (of_columns z c.args.rule ∷ []) (of_rows z c.args.rule ∷ []) (writing_first _ _ c.requires.rule_in_bounds) refl))

pub write_lines-requires-clause-count_value : goal.write_lines-requires-clause-count_value
write_lines-requires-clause-count_value c = rw (rows_are _ c.args.reading.stands c.args.rule) (c.requires.columns_value.1, rows_few _ c.args.reading.lines.ready.good _ c.requires.columns_value.1)

pub write_lines-requires-clause-n_in_bounds : goal.write_lines-requires-clause-n_in_bounds
write_lines-requires-clause-n_in_bounds c =
    let W = columns (goal.at.write_lines-requires-clause-n_in_bounds c).After-write_lines-at in
    rw (rows_are _ c.args.reading.stands c.args.rule) (one_room _ (writing_room (of_rows _ c.args.rule ∷ []) [] W))

pub returns : goal.returns
returns c =
    let W = columns (goal.at.returns c).After-write_lines-at in
    writing_done (writing_next (of_rows _ c.args.rule ∷ []) [] W (one_wrote _ (rw (rows_are _ c.args.reading.stands c.args.rule) at c.write_lines.ensures)))
