use Rattle.boards.proofs.Boards.{sections_read, width_word, height_word, rows_within}
use native.Mathlib.Omega.{arith}
use mathlib.Core.Path.{◌∙◌}
use Rattle.boards.proofs.board.check_puzzle.Goals as goal

-- `r` in these answers: the sections are read, and the rows begin where they should

pub bounds-words-0 : goal.bounds-words-0
bounds-words-0 c =
    let r = sections_read c.args.words.now c.in_ok-rows.ensures in
    omega (arith, rows_within _ r.0, r.1)

pub offset_bounds-words-rows : goal.offset_bounds-words-rows
offset_bounds-words-rows c =
    let r = sections_read c.args.words.now c.in_ok-rows.ensures in
    omega (arith, rows_within _ r.0, r.1)

pub bounds-words-rows : goal.bounds-words-rows
bounds-words-rows c =
    let r = sections_read c.args.words.now c.in_ok-rows.ensures in
    omega (arith, rows_within _ r.0, r.1)

pub check_meaning-requires-clause-width_value : goal.check_meaning-requires-clause-width_value
check_meaning-requires-clause-width_value c =
    let r = sections_read c.args.words.now c.in_ok-rows.ensures in
    (c.wide-width.ensures ∙ width_word _ r.0, c.wide-height.ensures ∙ height_word _ r.0 r.1, c.requires)
