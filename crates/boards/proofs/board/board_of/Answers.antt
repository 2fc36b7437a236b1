use mathlib.Core.Path.{ap, ◌∙◌}
use native.Mathlib.Omega.{arith}
use Rattle.puzzles.specs.Firsts.{first_at}
use Rattle.boards.proofs.Boards.{width_word, height_some, rows_within, rows_found, cells_found, sized}
use Rattle.boards.proofs.board.board_of.Goals as goal

pub bounds-table-0 : goal.bounds-table-0
bounds-table-0 c = omega (arith, rows_within c.args.table.words.now c.args.table.sectioned)

pub find_line-row-requires : goal.find_line-row-requires
find_line-row-requires c = omega (arith, c.wide-width.ensures ∙ width_word _ c.args.table.sectioned, height_some c.args.table.words.now c.args.table.sectioned)

pub overflow_sub-rows : goal.overflow_sub-rows
overflow_sub-rows c = omega (arith, rows_found _ c.args.table.sectioned (c.wide-width.ensures ∙ width_word _ c.args.table.sectioned) c.find_line-row.ensures)

-- `e` in these answers: the board's edges

pub overflow_sub-last : goal.overflow_sub-last
overflow_sub-last c =
    let e = sized _ c.args.table.sectioned c.wide-width.ensures c.find_line-row.ensures c.wide-height.ensures in
    omega (arith, e)

pub find_line-line-requires : goal.find_line-line-requires
find_line-line-requires c =
    let e = sized _ c.args.table.sectioned c.wide-width.ensures c.find_line-row.ensures c.wide-height.ensures in
    omega (arith, e)

pub next_first-requires : goal.next_first-requires
next_first-requires c =
    let e = sized _ c.args.table.sectioned c.wide-width.ensures c.find_line-row.ensures c.wide-height.ensures in
    omega (arith, e)

pub returns : goal.returns
returns c =
    let e = sized _ c.args.table.sectioned c.wide-width.ensures c.find_line-row.ensures c.wide-height.ensures in
    record {
      width_is = e.width_is;
      height_is = e.height_is;
      rows_is = e.rows_is;
      cells_is = cells_found _ c.args.table.sectioned _ (omega (arith, e)) c.find_line-line.ensures;
      first_is = c.next_first.ensures ∙ ap (first_at _) (omega (arith, e));
      colors_is = c.requires;
    }
