use Rattle.counts.proofs.Totals.{sums_small, all_counted}
use Rattle.counts.proofs.total.count_all.Goals as goal

pub summed-requires : goal.summed-requires
summed-requires c = sums_small _ c.args.reading.lines.ready.good c.args.reading.stands c.count_side-columns.ensures c.count_side-rows.ensures c.count_cells-cells.ensures

pub returns : goal.returns
returns c = rw c.summed.ensures (all_counted _ c.args.reading.lines.ready.good c.args.reading.stands c.count_side-columns.ensures c.count_side-rows.ensures c.count_cells-cells.ensures)
