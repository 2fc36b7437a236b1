use mathlib.Core.Path.{◌≡◌}
use Prim.Native.Nat.{ℕ, ◌+◌, ◌-◌}
use native.Mathlib.Omega.{arith}
use Rattle.lists.proofs.Eaches.{rest}
use Rattle.puzzles.specs.Puzzle.{Puzzle}
use Rattle.numbering.specs.Variables.{line_at}
use Rattle.placement.specs.declared.rule.Rule.{Rule}
use Rattle.placement.specs.Placement.{ruled, of_lines}
use Rattle.refusals.proofs.Answering.{handed}
use Rattle.truth.proofs.Testing.{testing_from, testing_room, testing_stop, testing_next, testing_done}
use Rattle.placement.proofs.SectionLoops.{lines_are}
use Rattle.placed.proofs.section.test_lines.Goals as goal

lines_rest : (z : Puzzle) (rule : Rule) (from n : ℕ) → of_lines z rule from n ≡ rest from (from + n) (λ l. ruled rule (line_at z l))
unfolding rest
lines_rest z rule from n =
    let e : from + n - from ≡ n = omega arith in
    rw e (lines_are z rule from n)

pub loop-l-init : goal.loop-l-init
loop-l-init c = testing_from _ _ _ _ _ _ (lines_rest _ _ _ _)

pub test_rule-requires : goal.test_rule-requires
test_rule-requires c = rw c.line.ensures.line (testing_room c.loop-l.invariant c.loop-l-test.true c.requires.countable)

pub returns-in_err-to : goal.returns-in_err-to
returns-in_err-to c = rw (handed c.from_residual.result c.from_residual.ensures.1) (testing_stop c.loop-l.invariant c.loop-l-test.true _ (rw (c.line.ensures.line, c.line.ensures.model) at c.in_err-to.ensures))

pub loop-l-preserved : goal.loop-l-preserved
loop-l-preserved c = testing_next c.loop-l.invariant c.loop-l-test.true (rw (c.line.ensures.line, c.line.ensures.model) at c.in_ok-to.ensures)

pub returns : goal.returns
returns c = testing_done c.loop-l.invariant c.loop-l-test.false
