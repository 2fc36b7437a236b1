use native.Mathlib.Omega.{arith}
use Rattle.numbering.proofs.Bounds.{cells_most}
use Rattle.numbering.specs.Held.{puzzle_read}
use Rattle.counts.proofs.Totals.{few, blank_off, cells_counted}
use Rattle.counts.proofs.total.count_cells.Goals as goal

pub count_units-units-requires : goal.count_units-units-requires
count_units-units-requires c =
    let G = c.args.reading.lines.ready.good in
    (blank_off _ G c.args.reading.stands, rw c.masks.ensures (omega (arith, G.area, cells_most (puzzle_read c.args.reading) G)))

pub overflow_sub-result : goal.overflow_sub-result
overflow_sub-result c = omega (arith, few _ c.args.reading.lines.ready.good c.args.reading.stands)

pub returns : goal.returns
returns c = cells_counted _ c.args.reading.lines.ready.good c.args.reading.stands c.count_lines-space.ensures c.masks.ensures c.count_units-units.ensures
