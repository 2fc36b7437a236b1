use mathlib.Core.Path.{refl}
use mathlib.Core.List.{[], ◌++◌}
use Rattle.numbering.specs.Held.{puzzle_read}
use Rattle.placement.specs.declared.rule.Rule.TheVariants.{Positions, Once, Overlap}
use Rattle.clauses.specs.Groups.{both, line_sections}
use Rattle.clauses.proofs.Tails.{Writing, writing_first, writing_front, writing_room, writing_next, writing_whole, writing_done}
use Rattle.clauses.proofs.buffer.write_line_sections.Goals as goal
use Rattle.clauses.proofs.buffer.write_line_sections.Goals.{After-write_both-at}

-- behind the first rule
positions : (c : After-write_both-at) → let z = puzzle_read c.args.reading in Writing (line_sections z) (both z Once ++ both z Overlap) c.args.out.now c.write_both-at.new.out c.write_both-at.result
positions c =
    let z = puzzle_read c.args.reading in
    writing_whole (both z Positions) (both z Once ++ both z Overlap) (writing_first _ _ c.requires.words_in_bounds) c.write_both-at.ensures

pub write_both-at-requires-clause-rule_in_bounds : goal.write_both-at-requires-clause-rule_in_bounds
write_both-at-requires-clause-rule_in_bounds c =
    let z = puzzle_read c.args.reading in
    writing_front (both z Positions) (both z Once ++ both z Overlap) (writing_first _ _ c.requires.words_in_bounds) refl

pub write_both-at-requires-2-clause-rule_in_bounds : goal.write_both-at-requires-2-clause-rule_in_bounds
write_both-at-requires-2-clause-rule_in_bounds c =
    let z = puzzle_read c.args.reading in
    writing_room (both z Once) (both z Overlap) (positions (goal.at.write_both-at-requires-2-clause-rule_in_bounds c).After-write_both-at)

pub write_both-at-requires-3-clause-rule_in_bounds : goal.write_both-at-requires-3-clause-rule_in_bounds
write_both-at-requires-3-clause-rule_in_bounds c =
    let z = puzzle_read c.args.reading in
    let W = positions (goal.at.write_both-at-requires-3-clause-rule_in_bounds c).After-write_both-at in
    writing_room (both z Overlap) [] (writing_next (both z Once) (both z Overlap) W c.write_both-at-2.ensures)

pub returns : goal.returns
returns c =
    let z = puzzle_read c.args.reading in
    let W = positions (goal.at.returns c).After-write_both-at in
    writing_done (writing_next (both z Overlap) [] (writing_next (both z Once) (both z Overlap) W c.write_both-at-2.ensures) c.write_both-at-3.ensures)
