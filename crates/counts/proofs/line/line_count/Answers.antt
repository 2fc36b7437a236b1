use Prim.Native.Nat.{◌-◌}
use native.Mathlib.Omega.{arith}
use native.Mathlib.Nat.{mul-le-mul_right}
use Rattle.numbering.specs.Held.{line_in}
use Rattle.counts.specs.Formulas.{measured}
use Rattle.counts.proofs.Countings.{line_small, once_are, space_small, space_are}
use Rattle.counts.proofs.line.line_count.Goals as goal

pub overflow_sub-result : goal.overflow_sub-result
overflow_sub-result c = omega (arith, line_small _ c.blocks-n.ensures.many c.positions-p.ensures c.args.line.sound)

pub overflow_mul-result : goal.overflow_mul-result
overflow_mul-result c =
    let small = line_small _ c.blocks-n.ensures.many c.positions-p.ensures c.args.line.sound in
    omega (arith, mul-le-mul_right {m = c.positions-p.result} {n = 65} (c.positions-p.result - 1) small.1, small)

pub overflow_mul-result-in-Once : goal.overflow_mul-result-in-Once
overflow_mul-result-in-Once c = omega (arith, line_small _ c.blocks-n.ensures.many c.positions-p.ensures c.args.line.sound)

pub overflow_mul-result-in-Space : goal.overflow_mul-result-in-Space
overflow_mul-result-in-Space c = omega (arith, space_small _ c.blocks-n.ensures.many c.positions-p.ensures c.size_count.ensures c.args.line.sound)

pub returns-in-Blocks : goal.returns-in-Blocks
unfolding measured
returns-in-Blocks c = rw c.in-Blocks.is c.blocks-n.ensures.many

pub returns-in-Once : goal.returns-in-Once
returns-in-Once c = once_are (line_in c.args.line) c.blocks-n.ensures.many c.positions-p.ensures c.in-Once.is

pub returns-in-Overlap : goal.returns-in-Overlap
unfolding measured
returns-in-Overlap c = rw c.in-Overlap.is c.overlap_count.ensures

pub returns-in-Space : goal.returns-in-Space
returns-in-Space c = space_are (line_in c.args.line) c.blocks-n.ensures.many c.positions-p.ensures c.size_count.ensures c.in-Space.is
