use Prim.Native.Nat.{◌+◌}
use native.Mathlib.Omega.{arith}
use Rattle.probes.specs.Parts.{parts_in}
use Rattle.probes.proofs.AcceptedProbes.{Accepted, accepted_probes}
use Rattle.implications.proofs.ProbePlaces.{formed, few_first, few_long, few_known, probes_parts}
use Rattle.implications.proofs.Counting.{Counting, counting_first, counting_next, counted_most, counting_done}
use Rattle.implications.proofs.count.count_probes.Goals as goal
use Rattle.implications.proofs.count.count_probes.Goals.{Start, After-count_probe-size}

taken : (c : Start) → let b = c.args.probed.painted.shown.board in Accepted b.width b.height b.colors c.args.probed.words.now
taken c = let b = c.args.probed.painted.shown.board in accepted_probes b.width b.height b.colors _ c.args.probed.accepted

pub of-part-items-requires : goal.of-part-items-requires
of-part-items-requires c = formed (taken (goal.at.of-part-items-requires c).Start)

pub loop-part-init : goal.loop-part-init
loop-part-init c = rw (c.into_iter-part-iterator.ensures.into_iter_gives, c.of-part-items.ensures) (counting_first (few_first (taken (goal.at.loop-part-init c).Start)))

pub count_probe-size-requires-clause-part_length : goal.count_probe-size-requires-clause-part_length
count_probe-size-requires-clause-part_length c = few_long c.loop-part.invariant.few c.in-Some.ensures.steps

pub count_probe-size-requires-clause-part_value : goal.count_probe-size-requires-clause-part_value
count_probe-size-requires-clause-part_value c = few_known c.loop-part.invariant.few c.in-Some.ensures.steps

next : (c : After-count_probe-size) → Counting c.args.probed.painted.shown.board (parts_in c.args.probed.words.now) (c.loop-part.clauses + c.count_probe-size.result.clauses) (c.loop-part.words + c.count_probe-size.result.words) c.next.new.self
next c = counting_next c.loop-part.invariant c.in-Some.ensures.steps c.count_probe-size.ensures

pub overflow_add-clauses : goal.overflow_add-clauses
overflow_add-clauses c = let a = goal.at.overflow_add-clauses c in omega (arith, counted_most (next a.After-count_probe-size) (omega arith) (few_first (taken a.Start)))

pub overflow_add-words : goal.overflow_add-words
overflow_add-words c = let a = goal.at.overflow_add-words c in omega (arith, counted_most (next a.After-count_probe-size) (omega arith) (few_first (taken a.Start)))

pub loop-part-preserved : goal.loop-part-preserved
loop-part-preserved c = next (goal.at.loop-part-preserved c).After-count_probe-size

pub returns-clause-extent_is : goal.returns-clause-extent_is
returns-clause-extent_is c = rw (c.args.probed.painted.palette_is, probes_parts (taken (goal.at.returns-clause-extent_is c).Start)) (counting_done c.loop-part.invariant c.in-None.ensures.steps.0)

pub returns-clause-clauses_bound : goal.returns-clause-clauses_bound
returns-clause-clauses_bound c = counted_most c.loop-part.invariant (omega arith) (few_first (taken (goal.at.returns-clause-clauses_bound c).Start))
