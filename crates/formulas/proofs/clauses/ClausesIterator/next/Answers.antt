use mathlib.Core.Path.{sym, ap, ◌∙◌}
use native.Mathlib.Omega.{arith}
use lib.ListN.{length}
use Rattle.literals.proofs.Words.{word_is}
use Rattle.formulas.proofs.Ahead.{ClauseAhead, ahead_count, ahead_section, ahead_clause, ahead_done}
use Rattle.formulas.proofs.clauses.ClausesIterator.next.Goals as goal

-- the clause that is next
clause : (c : goal.After-self-1) → ClauseAhead c.loop-word.self-inside.left c.loop-word.self-inside.rest.now c.in_ok-word.rest.now c.count-n.result
clause c = ahead_clause c.loop-word.invariant.0 c.in_ok-word.ensures.cases.0 (word_is _ (omega arith)) c.count-n.ensures c.if-self-gt0.true

pub returns-in_err-word-clause-steps : goal.returns-in_err-word-clause-steps
returns-in_err-word-clause-steps c =
    let d = ahead_done c.loop-word.self-inside.left _ c.in_err-word.ensures.cases in
    rw c.from_residual.ensures (sym c.loop-word.invariant.1 ∙ d, d)

pub count-n-requires : goal.count-n-requires
count-n-requires c = rw (word_is c.in_ok-word.field-0-0.now (omega arith)) (ahead_count c.loop-word.invariant.0 c.in_ok-word.ensures.cases.0)

pub split_at-requires : goal.split_at-requires
split_at-requires c = (ahead_clause c.loop-word.invariant.0 c.in_ok-word.ensures.cases.0 (word_is _ (omega arith)) c.count-n.ensures c.if-self-gt0.true).within

pub invariant_of-self-then-self-gt0 : goal.invariant_of-self-then-self-gt0
invariant_of-self-then-self-gt0 c = rw c.split_at.ensures.back (clause c).ahead

pub returns-then-self-gt0-clause-steps : goal.returns-then-self-gt0-clause-steps
returns-then-self-gt0-clause-steps c = rw (← c.loop-word.invariant.1, c.split_at.ensures.front, c.split_at.ensures.back) (clause c).clauses_are

pub returns-then-self-gt0-clause-goes : goal.returns-then-self-gt0-clause-goes
returns-then-self-gt0-clause-goes c = let s = returns-then-self-gt0-clause-steps c in record { on = λ f. (tt, tt, omega (arith, ap length s)); keeps = tt; rests = λ f. tt }

pub loop-word-preserved : goal.loop-word-preserved
loop-word-preserved c =
    let s = ahead_section c.loop-word.invariant.0 c.in_ok-word.ensures.cases.0 (word_is _ (omega arith)) c.count-n.ensures (omega (arith, c.if-self-gt0.false)) in
    (s.0, s.1 ∙ c.loop-word.invariant.1)
