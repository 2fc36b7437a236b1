use mathlib.Core.Path.{◌≡◌}
use Prim.Native.Nat.{◌+◌, ◌-◌}
use native.Mathlib.Omega.{arith}
use Rattle.lines.specs.Clue.{gap}
use Rattle.lines.specs.Arrangement.{distance}
use Rattle.lines.specs.Runs.{run}
use Rattle.lines.proofs.Packing.{base_gap}
use Rattle.lines.proofs.Moving.{clear_is, distance_is, distance_meets}
use Rattle.lines.proofs.meet.distance.Goals as goal

pub overflow_add-end : goal.overflow_add-end
overflow_add-end c =
    let clear = clear_is gap (run c.args.earlier) (run c.args.later) c.requires.0 in
    omega (arith, clear)

pub overflow_sub-result : goal.overflow_sub-result
overflow_sub-result c =
    let clear = clear_is gap (run c.args.earlier) (run c.args.later) c.requires.0 in
    omega (arith, clear)

pub returns : goal.returns
returns c =
    let a = c.args in
    let e : a.later.start - (a.earlier.start + a.earlier.size) + 1 - c.wide.result ≡ distance gap (run a.earlier) (run a.later) = rw (c.wide.ensures, c.gap.ensures.0) (distance_is gap (run a.earlier) (run a.later)) in
    (rw e (distance_meets base_gap (run a.earlier) (run a.later) c.requires.0), e)
