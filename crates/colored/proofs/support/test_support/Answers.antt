use mathlib.Core.Path.{sym, ◌∙◌}
use native.Mathlib.Omega.{arith}
use lib.Dec.{eqb}
use Rattle.colored.proofs.Sides.{side_at, picked_below}
use Rattle.colored.proofs.ModelVariables.{covering_within}
use Rattle.colored.proofs.CoveredTests.{seeking_first, seeking_next, sides_first, side_off, side_on, side_false, sides_done}
use Rattle.colored.proofs.support.test_support.Goals as goal

-- `found` in these answers: the positions that were found, of the side's line and cell

pub clauses-init : goal.clauses-init
clauses-init c = sides_first _ _ _ _ _ _ _ _

pub clauses-preserved-then-not-on : goal.clauses-preserved-then-not-on
clauses-preserved-then-not-on c = side_off _ _ _ _ _ _ _ _ c.clauses.invariant c.clauses-test.true c.requires.2.0 (sym c.on.ensures ∙ c.if-not-on.true)

pub loop-u-init : goal.loop-u-init
loop-u-init c = seeking_first _ _

pub on-requires-in-loop-u : goal.on-requires-in-loop-u
on-requires-in-loop-u c =
    let found = rw (side_at c.args.x c.args.row c.args.y _ (0, 0) c.clauses-test.true) at c.find_covering-n.ensures.1 in
    rw found (covering_within c.args.trial.model.now _ c.args.trial.known _ _ _ (picked_below (eqb c.clauses.side 0) c.requires.0 c.requires.1) _ (rw found at c.loop-u-test.true))

pub clauses-preserved : goal.clauses-preserved
clauses-preserved c =
    let found = rw (side_at c.args.x c.args.row c.args.y _ (0, 0) c.clauses-test.true) at c.find_covering-n.ensures.1 in
    side_on _ _ _ _ _ _ _ _ c.clauses.invariant c.clauses-test.true c.requires.2.0 (sym c.on.ensures ∙ c.if-not-on.false) c.loop-u.invariant (rw found at c.loop-u-test.true) (rw found at (sym c.on-in-loop-u.ensures ∙ c.if-on.true))

pub loop-u-preserved : goal.loop-u-preserved
loop-u-preserved c =
    let found = rw (side_at c.args.x c.args.row c.args.y _ (0, 0) c.clauses-test.true) at c.find_covering-n.ensures.1 in
    seeking_next _ _ c.loop-u.invariant (rw found at c.loop-u-test.true) (rw found at (sym c.on-in-loop-u.ensures ∙ c.if-on.false))

pub returns-in-clauses : goal.returns-in-clauses
returns-in-clauses c =
    let found = rw (side_at c.args.x c.args.row c.args.y _ (0, 0) c.clauses-test.true) at c.find_covering-n.ensures.1 in
    side_false _ _ _ _ _ _ _ _ c.clauses.invariant c.clauses-test.true c.requires.2.0 (sym c.on.ensures ∙ c.if-not-on.false) c.loop-u.invariant (rw found at c.loop-u-test.false)

pub returns : goal.returns
returns c = sides_done _ _ _ _ _ _ _ _ c.clauses.invariant (omega arith)
