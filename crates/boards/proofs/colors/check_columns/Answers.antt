use mathlib.Core.List.{[]}
use Rattle.boards.proofs.Coloring.{known_found}
use Rattle.refusals.proofs.Offending.{searching_first, searching_found, searching_next, searching_done}
use native.Mathlib.Omega.{arith}
use mathlib.Core.Bool.{not}
use mathlib.Core.Path.{sym, ap, ◌∙◌}
use Rattle.boards.proofs.colors.check_columns.Goals as goal

pub loop-l-init : goal.loop-l-init
loop-l-init c = searching_first _ _ _ _

pub returns-then-not-all_known : goal.returns-then-not-all_known
returns-then-not-all_known c =
    searching_found c.loop-l.invariant [] (omega (arith, c.loop-l-test.true, c.requires))
    (ap not (sym (known_found _ _ _ (omega (arith, c.loop-l-test.true, c.requires)) c.clue.ensures) ∙ sym c.all_known.ensures ∙ c.if-not-all_known.true))

pub loop-l-preserved : goal.loop-l-preserved
loop-l-preserved c =
    searching_next c.loop-l.invariant [] (omega (arith, c.loop-l-test.true, c.requires))
    (ap not (sym (known_found _ _ _ (omega (arith, c.loop-l-test.true, c.requires)) c.clue.ensures) ∙ sym c.all_known.ensures ∙ c.if-not-all_known.false))

pub returns : goal.returns
returns c = searching_done c.loop-l.invariant (omega (arith, c.loop-l-test.false, c.requires))
