use mathlib.Core.Path.{ap}
use Prim.Native.Nat.{◌+◌, ◌≤◌}
use native.Mathlib.Omega.{arith}
use native.Mathlib.Nat.{mul-le-mul_left}
use borrow.Author.Tests.{eq-eqb, ne_eqb}
use lib.ListN.{length}
use Rattle.lists.proofs.Writing.{tail_is}
use Rattle.numbering.proofs.Palettes.{palette_most}
use Rattle.implications.proofs.ProbeSizes.{count_most, probe_sized}
use Rattle.implications.proofs.count.count_probe.Goals as goal

pub overflow_add-result : goal.overflow_add-result
overflow_add-result c = omega (arith, palette_most c.args.painted.shown.board.colors, ap length c.args.painted.palette_is)

pub overflow_mul-result : goal.overflow_mul-result
overflow_mul-result c =
    let b = c.args.painted.shown.board in
    let h : length c.args.painted.palette.now + 2 ≤ 33 = omega (arith, palette_most b.colors, ap length c.args.painted.palette_is) in
    omega (arith, mul-le-mul_left c.count_impacts-clauses.result h, count_most b b.colors (omega arith) c.args.part.now, (rw (tail_is _ _) at c.count_impacts-clauses.ensures))

pub returns-then-part-eq0 : goal.returns-then-part-eq0
returns-then-part-eq0 c = probe_sized c.args.painted.shown.board _ (omega arith) _ c.requires.part_value _ _ (rw (tail_is _ _) at c.count_impacts-clauses.ensures) (rw (eq-eqb _ _ c.if-part-eq0.true) (ap length c.args.painted.palette_is))

pub overflow_mul-result-2 : goal.overflow_mul-result-2
overflow_mul-result-2 c =
    let b = c.args.painted.shown.board in
    omega (arith, count_most b b.colors (omega arith) c.args.part.now, (rw (tail_is _ _) at c.count_impacts-clauses.ensures))

pub returns : goal.returns
returns c = probe_sized c.args.painted.shown.board _ (omega arith) _ c.requires.part_value _ 1 (rw (tail_is _ _) at c.count_impacts-clauses.ensures) (rw (ne_eqb _ _ c.if-part-eq0.false))
