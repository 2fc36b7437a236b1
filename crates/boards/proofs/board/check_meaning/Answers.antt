use Rattle.boards.proofs.Boards.{spaces_off, spaces_pass, columns_off, cells_off, meaning_done, masks_within, masks_part}
use Rattle.puzzles.specs.Checks as C
use Rattle.refusals.specs.Told.{told}
use Rattle.refusals.proofs.Answering.{handed}
use native.Mathlib.Omega.{arith}
use mathlib.Core.Path.{ap, ◌∙◌}
use Rattle.boards.proofs.board.check_meaning.Goals as goal

-- `spaced` in these answers: the lines have room, and the cells begin where they end

pub returns-in_err-cells-clause-result_value : goal.returns-in_err-cells-clause-result_value
returns-in_err-cells-clause-result_value c = ap told (handed c.from_residual.result c.from_residual.ensures.1) ∙ (spaces_off _ _ c.in_err-cells.ensures.result_value {X = ⊥}).0

pub returns-in_err-cells-clause-laid : goal.returns-in_err-cells-clause-laid
returns-in_err-cells-clause-laid c = (spaces_off _ _ c.in_err-cells.ensures.result_value).1

pub returns-in_err-check_columns-clause-result_value : goal.returns-in_err-check_columns-clause-result_value
returns-in_err-check_columns-clause-result_value c =
    let spaced = spaces_pass _ c.in_ok-cells.ensures.result_value in
    ap told (handed _ c.from_residual-in_err-check_columns.ensures.1) ∙ (columns_off _ spaced.0 c.row_colors-colors.ensures _ c.in_err-check_columns.ensures {X = ⊥}).0

pub overflow_add-cells : goal.overflow_add-cells
overflow_add-cells c = omega (arith, masks_within _ c.requires.sectioned (spaces_pass _ c.in_ok-cells.ensures.result_value).1)

pub offset_bounds-words-cells : goal.offset_bounds-words-cells
offset_bounds-words-cells c = omega (arith, masks_within _ c.requires.sectioned (spaces_pass _ c.in_ok-cells.ensures.result_value).1)

pub slice_bounds-check_cells-count : goal.slice_bounds-check_cells-count
slice_bounds-check_cells-count c = omega (arith, masks_within _ c.requires.sectioned (spaces_pass _ c.in_ok-cells.ensures.result_value).1)

pub slice_bounds-check_cells-start : goal.slice_bounds-check_cells-start
slice_bounds-check_cells-start c = omega (arith, masks_within _ c.requires.sectioned (spaces_pass _ c.in_ok-cells.ensures.result_value).1)

pub returns-in_err-check_cells-clause-result_value : goal.returns-in_err-check_cells-clause-result_value
returns-in_err-check_cells-clause-result_value c =
    let spaced = spaces_pass _ c.in_ok-cells.ensures.result_value in
    ap told (handed _ c.from_residual-in_err-check_cells.ensures.1)
    ∙ (cells_off _ spaced.0 c.row_colors-colors.ensures c.in_ok-check_columns.ensures _ (c.in_err-check_cells.ensures ∙ ap (C.solved_checks _) (masks_part _ c.requires.sectioned spaced.1)) {X = ⊥}).0

pub returns-clause-result_value : goal.returns-clause-result_value
returns-clause-result_value c =
    let spaced = spaces_pass _ c.in_ok-cells.ensures.result_value in
    meaning_done _ spaced.0 c.row_colors-colors.ensures c.in_ok-check_columns.ensures (c.in_ok-check_cells.ensures ∙ ap (C.solved_checks _) (masks_part _ c.requires.sectioned spaced.1))
