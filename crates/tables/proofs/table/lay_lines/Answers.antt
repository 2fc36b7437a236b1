use Rattle.refusals.specs.Told.{told}
use Rattle.refusals.proofs.Answering.{handed}
use Rattle.tables.proofs.Laying.{Room, room, line_length_is, laying_first, laying_short, laying_vars, laying_next, laying_done}
use Rattle.puzzles.proofs.Accepting.{walked_sections, size_some}
use Rattle.lines.proofs.Checks.{size_within}
use Rattle.puzzles.specs.Checks.{puzzle}
use Rattle.puzzles.specs.Puzzle as P
use Prim.Native.Nat.{◌<◌}
use native.Mathlib.Omega.{arith}
use mathlib.Core.Path.{◌≡◌, refl, ap, ◌∙◌}
use Rattle.tables.proofs.table.lay_lines.Goals as goal
use Rattle.tables.proofs.table.lay_lines.Goals.{In-loop-l, After-line_length-cells}

in_line : (c : In-loop-l) → c.loop-l.l < P.lines (puzzle c.args.words.now)
in_line c = omega (arith, c.loop-l.invariant.0, c.loop-l-test.true)

here : (c : In-loop-l) → Room c.args.words.now c.requires.sectioned c.loop-l.l (in_line c) c.loop-l.invariant.1.1.stands
here c = room _ c.requires.sectioned _ (in_line c) c.loop-l.invariant.1.1.stands

cells_are : (c : After-line_length-cells) → c.line_length-cells.result ≡ P.length_at (puzzle c.args.words.now) c.loop-l.l
cells_are c = line_length_is _ _ c.requires.width_value.0 c.requires.width_value.1 c.line_length-cells.ensures

pub overflow_add-l-end : goal.overflow_add-l-end
overflow_add-l-end c = omega (arith, c.requires.width_value, size_within (P.width (puzzle c.args.words.now)) (walked_sections 0 c.args.words.now c.requires.sectioned).fine.columns.0, size_within (P.height (puzzle c.args.words.now)) (walked_sections 0 c.args.words.now c.requires.sectioned).fine.rows.0)

pub loop-l-init : goal.loop-l-init
loop-l-init c = (omega (arith, c.requires.width_value), (refl, laying_first _ _ (size_some _ (walked_sections 0 c.args.words.now c.requires.sectioned).fine.columns.0)))

pub lay_line-requires-clause-l_bound : goal.lay_line-requires-clause-l_bound
lay_line-requires-clause-l_bound c =
    let at = goal.at.lay_line-requires-clause-l_bound c in
    (in_line at.In-loop-l, cells_are at.After-line_length-cells, omega (arith, c.loop-l.invariant.1.0, c.requires.width_value))

pub returns-in_err-variables : goal.returns-in_err-variables
returns-in_err-variables c =
    let at = goal.at.returns-in_err-variables c in
    let short = laying_short _ c.requires.sectioned c.loop-l.invariant.1.1 (in_line at.In-loop-l) (cells_are at.After-line_length-cells) _ c.in_err-variables.ensures.result_value in
    record { result_value = ap told (handed c.from_residual.result c.from_residual.ensures.1) ∙ short.0; laid = short.1 }

pub overflow_add-first : goal.overflow_add-first
overflow_add-first c =
    let at = goal.at.overflow_add-first c in
    omega (arith, here at.In-loop-l, laying_vars _ c.requires.sectioned c.loop-l.invariant.1.1 (in_line at.In-loop-l) _ c.in_ok-variables.ensures.result_value)

pub offset_bounds-words-at : goal.offset_bounds-words-at
offset_bounds-words-at c = omega (arith, here (goal.at.offset_bounds-words-at c).In-loop-l)

pub bounds-words-at : goal.bounds-words-at
bounds-words-at c = omega (arith, here (goal.at.bounds-words-at c).In-loop-l)

pub overflow_add-at : goal.overflow_add-at
overflow_add-at c = omega (arith, here (goal.at.overflow_add-at c).In-loop-l, c.wide-n.ensures)

pub overflow_add-at-in-loop-l : goal.overflow_add-at-in-loop-l
overflow_add-at-in-loop-l c = omega (arith, here (goal.at.overflow_add-at-in-loop-l c).In-loop-l, c.wide-n.ensures)

pub next_begin-at-requires : goal.next_begin-at-requires
next_begin-at-requires c =
    let H = here (goal.at.next_begin-at-requires c).In-loop-l in
    (omega (arith, H, c.wide-n.ensures), omega (arith, H))

pub loop-l-preserved : goal.loop-l-preserved
loop-l-preserved c =
    let at = goal.at.loop-l-preserved c in
    let L = c.loop-l.invariant in
    (L.0, (c.lay_line.auto.table ∙ L.1.0, laying_next _ c.requires.sectioned L.1.1 (in_line at.In-loop-l) (omega (arith, L.1.0, c.requires.width_value)) (cells_are at.After-line_length-cells) c.in_ok-variables.ensures.result_value c.in_ok-variables.ensures.by_index c.wide-n.ensures c.requires.width_value.0 c.next_begin-at.ensures))

pub returns-clause-result_value : goal.returns-clause-result_value
returns-clause-result_value c = laying_done _ c.loop-l.invariant.1.1 (omega (arith, c.loop-l.invariant.0, c.loop-l-test.false))
