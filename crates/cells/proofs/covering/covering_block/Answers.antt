use mathlib.Core.Path.{◌≡◌, sym, ◌∙◌}
use mathlib.Core.Bool.{true}
use Rattle.lines.specs.Arrangement.{moved, covers}
use Rattle.lines.specs.Runs.{run}
use Rattle.cells.proofs.BlockPositions.{reaching_first, reaching_late, reaching_early, reaching_space, reaching_next, reaching_done}
use Rattle.cells.proofs.covering.covering_block.Goals as goal

pub loop-i-init : goal.loop-i-init
loop-i-init c = reaching_first _ (run c.args.block) _ _ _ _ c.requires.t_in_bounds

pub returns-then-behind : goal.returns-then-behind
returns-then-behind c = reaching_late _ (run c.args.block) _ _ c.loop-i.invariant c.loop-i-test.true (sym c.behind.ensures ∙ c.if-behind.true)

pub loop-i-preserved-then-not-covers : goal.loop-i-preserved-then-not-covers
loop-i-preserved-then-not-covers c = reaching_early _ (run c.args.block) _ _ c.loop-i.invariant c.loop-i-test.true (sym c.covers.ensures ∙ c.if-not-covers.true)

pub bounds-found-to : goal.bounds-found-to
bounds-found-to c =
    let covered : covers (moved (run c.args.block) c.loop-i.i) c.args.t ≡ true = sym c.covers.ensures ∙ c.if-not-covers.false in
    reaching_space _ (run c.args.block) _ _ c.loop-i.invariant c.loop-i-test.true covered

pub loop-i-preserved : goal.loop-i-preserved
loop-i-preserved c =
    let covered : covers (moved (run c.args.block) c.loop-i.i) c.args.t ≡ true = sym c.covers.ensures ∙ c.if-not-covers.false in
    reaching_next _ (run c.args.block) _ _ c.loop-i.invariant c.loop-i-test.true covered

pub returns : goal.returns
returns c = reaching_done _ (run c.args.block) _ _ c.loop-i.invariant c.loop-i-test.false
