use borrow.Author.Tests.{eq-eqb, ne_eqb}
use native.Mathlib.Omega.{arith}
use mathlib.Core.Path.{◌≡◌, ap}
use mathlib.Core.Logic.{⊎_elim}
use mathlib.Core.List.{[], ◌∷◌}
use lib.ListN.{length}
use Rattle.lists.proofs.Writing.{wrote_none, wrote_store}
use Rattle.literals.proofs.Words.{word_is}
use Rattle.implied.specs.ByWords.{premise_literal, premise_at}
use Rattle.implied.proofs.CellClauses.{premise_blank, premise_color, premise_other}
use Rattle.implied.proofs.premise.put_literal.Goals as goal

-- `one` in these answers: blank, or this colour

pub bounds-out-at : goal.bounds-out-at
bounds-out-at c =
    let one : premise_at c.args.color c.args.hue c.args.u ≡ premise_literal c.args.color c.args.u ∷ [] = ⊎_elim (λ w. premise_blank _ _ _ w) (λ w. premise_color _ _ _ w.0 (eq-eqb c.args.hue c.args.color w.1)) c.then-color-eq0.either in
    omega (arith, c.requires.u_in_bounds, ap length one)

pub returns-then-color-eq0 : goal.returns-then-color-eq0
returns-then-color-eq0 c =
    let one : premise_at c.args.color c.args.hue c.args.u ≡ premise_literal c.args.color c.args.u ∷ [] = ⊎_elim (λ w. premise_blank _ _ _ w) (λ w. premise_color _ _ _ w.0 (eq-eqb c.args.hue c.args.color w.1)) c.then-color-eq0.either in
    rw (one, word_is c.premise_literal.result c.premise_literal.type_inv, c.premise_literal.ensures) (wrote_store _ _ _ (omega (arith, c.requires.u_in_bounds, ap length one)))

pub returns : goal.returns
returns c = rw (premise_other c.args.color c.args.hue c.args.u c.if-color-eq0.false (ne_eqb _ _ c.if-hue-color.false)) (wrote_none _ _)
