use native.Mathlib.Omega.{arith}
use Rattle.tables.proofs.Laying.{lines_most}
use Rattle.tables.proofs.Finding.{count_within, found}
use Rattle.tables.proofs.table.Table.find_line.Goals as goal

pub overflow_mul-line : goal.overflow_mul-line
overflow_mul-line c = omega (arith, lines_most c.args.self.words.now c.args.self.sectioned c.args.l c.requires)

pub offset_bounds-self-line : goal.offset_bounds-self-line
offset_bounds-self-line c = omega (arith, lines_most c.args.self.words.now c.args.self.sectioned c.args.l c.requires)

pub bounds-self-line : goal.bounds-self-line
bounds-self-line c = omega (arith, lines_most c.args.self.words.now c.args.self.sectioned c.args.l c.requires, c.args.self.long)

pub bounds-self-count : goal.bounds-self-count
bounds-self-count c = omega (arith, count_within c.args.self.words.now c.args.self.sectioned c.args.self.lines.now c.args.self.laid c.args.l c.requires c.wide-count.ensures)

pub returns : goal.returns
returns c = found c.args.self.words.now c.args.self.sectioned c.args.self.lines.now c.args.self.laid c.args.l c.requires c.wide-count.ensures c.wide.ensures c.args.self.long
