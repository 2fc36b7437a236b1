use mathlib.Core.Path.{◌≡◌, sym, ◌∙◌}
use native.Mathlib.Omega.{arith}
use lib.ListN.{length}
use Rattle.cells.proofs.BoardCells.{cell_at, given_holds, given_shows, cell_is}
use Rattle.cells.proofs.ByColumn.{coloring_first, coloring_room, coloring_next, coloring_done}
use Rattle.cells.proofs.section.cell_clauses.Goals as goal

-- `first` in these answers: the first variable, by the board

pub loop-r-init : goal.loop-r-init
loop-r-init c = coloring_first _ _ _ _ _ _ c.requires.y_in_bounds

pub color_clauses-to-requires-clause-x_in_bounds : goal.color_clauses-to-requires-clause-x_in_bounds
color_clauses-to-requires-clause-x_in_bounds c =
    let G = given_holds c.args.given in
    let first : c.cell_first-first.result ≡ cell_at c.args.given.reading.board (length c.args.given.palette.now) c.args.x c.args.y = c.cell_first-first.ensures.value ∙ sym (cell_is (given_shows G) _ _) in
    rw first (coloring_room G _ _ _ (omega arith) c.loop-r.invariant)

pub loop-r-preserved : goal.loop-r-preserved
loop-r-preserved c =
    let G = given_holds c.args.given in
    let first : c.cell_first-first.result ≡ cell_at c.args.given.reading.board (length c.args.given.palette.now) c.args.x c.args.y = c.cell_first-first.ensures.value ∙ sym (cell_is (given_shows G) _ _) in
    coloring_next G _ _ _ (omega arith) c.loop-r.invariant (rw first at c.color_clauses-to.ensures)

pub returns : goal.returns
returns c = coloring_done (given_holds c.args.given) _ _ _ c.loop-r.invariant (omega arith)
