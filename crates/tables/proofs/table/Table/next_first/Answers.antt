use native.Mathlib.Omega.{arith}
use Rattle.tables.proofs.Finding.{found_next, found_few}
use Rattle.tables.proofs.table.Table.next_first.Goals as goal

pub overflow_mul-result : goal.overflow_mul-result
overflow_mul-result c = omega (arith, found_few c.args.self.words.now c.args.self.sectioned c.args.self.lines.now c.args.self.laid c.args.l c.requires c.find_line-parts.ensures c.wide.ensures c.wide-2.ensures)

pub overflow_add-result : goal.overflow_add-result
overflow_add-result c = omega (arith, found_few c.args.self.words.now c.args.self.sectioned c.args.self.lines.now c.args.self.laid c.args.l c.requires c.find_line-parts.ensures c.wide.ensures c.wide-2.ensures)

pub returns : goal.returns
returns c = found_next c.args.self.words.now c.args.self.sectioned c.args.self.lines.now c.args.self.laid c.args.l c.requires c.find_line-parts.ensures c.wide.ensures c.wide-2.ensures
