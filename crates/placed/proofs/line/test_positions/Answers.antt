use mathlib.Core.Path.{sym, ◌∙◌}
use native.Mathlib.Omega.{arith}
use Rattle.numbering.specs.Held.{line_in}
use Rattle.placed.proofs.SomePosition.{some_first, literal_true_lem, literal_false, literals_false, blocks_first, blocks_done}
use Rattle.placed.proofs.line.test_positions.Goals as goal

pub clauses-init : goal.clauses-init
clauses-init c = blocks_first (line_in c.args.trial.line) _ _

pub loop-i-init : goal.loop-i-init
loop-i-init c = record { below = omega arith; first_is = c.block_first-first.ensures.value; clauses = c.clauses.invariant; left = some_first _ _ _ }

pub clauses-preserved : goal.clauses-preserved
clauses-preserved c = literal_true_lem c.loop-i.invariant (omega arith) (sym c.on.ensures ∙ c.if-on.true)

pub loop-i-preserved : goal.loop-i-preserved
loop-i-preserved c = literal_false c.loop-i.invariant (omega arith) (sym c.on.ensures ∙ c.if-on.false)

pub returns-in-clauses : goal.returns-in-clauses
returns-in-clauses c = literals_false c.loop-i.invariant (omega arith)

pub returns : goal.returns
returns c = rw c.blocks-n.ensures.many (blocks_done (line_in c.args.trial.line) _ _ c.clauses.invariant (omega arith))
