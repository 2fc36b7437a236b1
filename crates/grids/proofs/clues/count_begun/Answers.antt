use mathlib.Core.Path.{ap₂, ◌∙◌}
use Prim.Native.Nat.{◌+◌}
use native.Mathlib.Omega.{arith}
use lib.ListN.{length, length-append}
use Rattle.std.proofs.Common.{rules}
use Rattle.std.proofs.lemmas.Slice.Zip.{zip_turn, zip_end}
use Rattle.runs.specs.Begins.{begins}
use Rattle.grids.proofs.ColumnWords.{Finding, finding_first, finding_next, finding_done}
use Rattle.grids.proofs.clues.count_begun.Goals as goal
use Rattle.grids.proofs.clues.count_begun.Goals.{After-run_begins-count}

pub loop-color-init : goal.loop-color-init
loop-color-init c = finding_first _ _

-- the pair in hand is counted
next : (c : After-run_begins-count) → Finding c.args.row.now c.args.above.now (c.loop-color.count + c.run_begins-count.result) (length c.loop-color.yielded + 1)
next c =
    let k = zip_turn c.args.row.now c.args.above.now _ _ _ c.next.new.self _ (search rules) (search rules) c.loop-color.yielded_by _ c.in-Some.is c.next.ensures.steps in
    finding_next c.loop-color.invariant k.0 (c.run_begins-count.ensures.0 ∙ ap₂ begins (k.3 0) (k.2 0)) c.run_begins-count.ensures.1

pub overflow_add-count : goal.overflow_add-count
overflow_add-count c =
    let n = next (goal.at.overflow_add-count c).After-run_begins-count in
    omega (arith, n.few, n.within, c.requires.0)

pub loop-color-preserved : goal.loop-color-preserved
loop-color-preserved c = rw (length-append c.loop-color.yielded) (next (goal.at.loop-color-preserved c).After-run_begins-count)

pub returns : goal.returns
returns c =
    let e = zip_end c.args.row.now c.args.above.now _ _ _ c.next.new.self _ (search rules) (search rules) c.loop-color.yielded_by c.in-None.is c.next.ensures.steps in
    c.from.ensures ∙ finding_done c.loop-color.invariant (omega (arith, e, c.requires.1))
