use mathlib.Core.Path.{sym, ◌∙◌}
use Rattle.truth.proofs.Testing.{testing_done}
use Rattle.lines.specs.Runs.{run}
use Rattle.colored.proofs.SpaceTests.{block_first, block_late, block_stop, block_held, block_off, block_miss}
use Rattle.colored.proofs.spaces.test_block.Goals.{else-not-holds-via-then-not-holds+then-on+else-covered, else-not-holds-via-then-not-holds+else-on, else-not-holds-via-else-not-holds}
use Rattle.colored.proofs.spaces.test_block.Goals as goal

pub loop-i-init : goal.loop-i-init
loop-i-init c = block_first _ _ _ _ (run c.args.block) _ _

pub returns-then-behind : goal.returns-then-behind
returns-then-behind c = block_late _ _ _ _ (run c.args.block) _ c.loop-i.invariant c.loop-i-test.true (sym c.behind.ensures ∙ c.if-behind.true)

pub returns-then-covered : goal.returns-then-covered
returns-then-covered c = block_stop _ _ _ _ (run c.args.block) _ c.loop-i.invariant c.loop-i-test.true (sym c.on-holds.ensures ∙ c.if-not-holds.true) (c.requires.by_index.0 _ c.loop-i-test.true).0 (sym c.on.ensures ∙ c.if-on.true) (sym c.covers-covered.ensures ∙ c.if-covered.true)

pub loop-i-preserved : goal.loop-i-preserved
loop-i-preserved c = elim c.else-not-holds.branch [
  | else-not-holds-via-then-not-holds+then-on+else-covered w ↦ block_miss _ _ _ _ (run c.args.block) _ c.loop-i.invariant c.loop-i-test.true c.covers-covered.ensures c.from-to.ensures w.if-covered.false
  | else-not-holds-via-then-not-holds+else-on w ↦ block_off _ _ _ _ (run c.args.block) _ c.loop-i.invariant c.loop-i-test.true c.covers-covered.ensures c.from-to.ensures (c.requires.by_index.0 _ c.loop-i-test.true).0 (sym w.on.ensures ∙ w.if-on.false)
  | else-not-holds-via-else-not-holds w ↦ block_held _ _ _ _ (run c.args.block) _ c.loop-i.invariant c.loop-i-test.true c.covers-covered.ensures c.from-to.ensures (sym c.on-holds.ensures ∙ w.if-not-holds.false)
]

pub returns : goal.returns
returns c = testing_done c.loop-i.invariant c.loop-i-test.false
