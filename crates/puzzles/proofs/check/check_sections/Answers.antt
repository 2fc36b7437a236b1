use mathlib.Core.Path.{ap, ◌∙◌}
use native.Mathlib.Omega.{arith}
use Rattle.lists.proofs.Writing.{tail_is}
use Rattle.refusals.specs.Told.{told}
use Rattle.puzzles.proofs.Places.{columns_read, section_read, columns_refused, rows_refused, cells_refused, left_over, sections_are}
use Rattle.puzzles.proofs.Readers.{lines_reader, cells_reader}
use Rattle.puzzles.proofs.check.check_sections.Goals as goal

pub returns-in_default : goal.returns-in_default
returns-in_default c = ap told c.in_default.is ∙ columns_refused _ _ _ c.in_default.ensures.walk

pub returns-in_default-read : goal.returns-in_default-read
returns-in_default-read c =
    let columns_are = columns_read _ _ c.in-Ok.ensures.walk in
    ap told c.in_default-read.is ∙ rows_refused _ _ columns_are _ c.in_default-read.ensures.walk

pub returns-in_default-masks : goal.returns-in_default-masks
returns-in_default-masks c =
    let columns_are = columns_read _ _ c.in-Ok.ensures.walk in
    let rows_are = section_read lines_reader _ _ _ (omega (arith, columns_are.place_is)) columns_are.within (rw (tail_is _ _) at c.in-Ok-read.ensures.walk) in
    ap told c.in_default-masks.is ∙ cells_refused _ _ columns_are rows_are c.wide.ensures c.wide-2.ensures _ c.in_default-masks.ensures.walk

pub returns-then-end-at : goal.returns-then-end-at
returns-then-end-at c =
    let columns_are = columns_read _ _ c.in-Ok.ensures.walk in
    let rows_are = section_read lines_reader _ _ _ (omega (arith, columns_are.place_is)) columns_are.within (rw (tail_is _ _) at c.in-Ok-read.ensures.walk) in
    let cells_are = section_read (cells_reader _) _ _ _ (omega (arith, rows_are.low, rows_are.place_is)) rows_are.within (rw (tail_is _ _) at c.in-Ok-masks.ensures.walk) in
    left_over _ _ columns_are rows_are c.wide.ensures c.wide-2.ensures cells_are (omega arith)

pub returns : goal.returns
returns c =
    let columns_are = columns_read _ _ c.in-Ok.ensures.walk in
    let rows_are = section_read lines_reader _ _ _ (omega (arith, columns_are.place_is)) columns_are.within (rw (tail_is _ _) at c.in-Ok-read.ensures.walk) in
    let cells_are = section_read (cells_reader _) _ _ _ (omega (arith, rows_are.low, rows_are.place_is)) rows_are.within (rw (tail_is _ _) at c.in-Ok-masks.ensures.walk) in
    sections_are _ _ columns_are rows_are c.wide.ensures c.wide-2.ensures cells_are (omega arith)
