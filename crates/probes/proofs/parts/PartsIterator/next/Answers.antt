use mathlib.Core.Path.{sym, ap, ◌∙◌}
use Prim.Native.Nat.{◌+◌, ◌*◌}
use native.Mathlib.Omega.{arith}
use lib.ListN.{length}
use Rattle.probes.proofs.Ahead.{PartAhead, ahead_part, ahead_long, ahead_done}
use Rattle.probes.proofs.parts.PartsIterator.next.Goals as goal
use Rattle.probes.proofs.parts.PartsIterator.next.Goals.{After-wide}

-- the part that is next
part : (c : After-wide) → PartAhead c.self.inside.left c.self.inside.rest.now (4 + 3 * c.wide.result)
part c = ahead_part c.self.invariant (omega (arith, c.if-self-eq0.false)) c.wide.ensures

pub returns-then-self-eq0-clause-steps : goal.returns-then-self-eq0-clause-steps
returns-then-self-eq0-clause-steps c = let d = sym c.self.view_is ∙ ahead_done _ c.if-self-eq0.true in (d, d)

pub bounds-self-inside-3 : goal.bounds-self-inside-3
bounds-self-inside-3 c = ahead_long c.self.invariant (omega (arith, c.if-self-eq0.false))

pub split_at-requires : goal.split_at-requires
split_at-requires c = (part c).within

pub invariant_of-self : goal.invariant_of-self
invariant_of-self c = rw c.split_at.ensures.back (part (goal.at.invariant_of-self c).After-wide).ahead

pub returns-clause-steps : goal.returns-clause-steps
returns-clause-steps c = rw (← c.self.view_is, c.split_at.ensures.front, c.split_at.ensures.back) (part (goal.at.returns-clause-steps c).After-wide).parts_are

pub returns-clause-goes : goal.returns-clause-goes
returns-clause-goes c = let s = returns-clause-steps c in record { on = λ f. (tt, tt, omega (arith, ap length s)); keeps = tt; rests = λ f. tt }
