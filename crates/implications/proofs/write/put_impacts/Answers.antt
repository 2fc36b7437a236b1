use mathlib.Core.Path.{◌≡◌, ap, ◌∙◌}
use mathlib.Core.List.{List, []}
use Prim.Native.Nat.{ℕ, ◌*◌}
use native.Mathlib.Omega.{arith}
use lib.ListN.{length, get_or}
use Rattle.lists.proofs.Emitting.{emit_room, emit_next}
use Rattle.probes.specs.Words.{claim_at}
use Rattle.implied.specs.ByWords.{first_of}
use Rattle.implications.proofs.ProbeClauses.{impacts_first, impacts_done}
use Rattle.implications.proofs.write.put_impacts.Goals as goal
use Rattle.implications.proofs.write.put_impacts.Goals.{After-cell_first-v}

-- the first variable of the claim's cell, and its colour
first_is : (c : After-cell_first-v) → c.cell_first-v.result ≡ first_of c.args.painted.shown.board (length c.args.painted.palette.now) (claim_at c.args.impacts.now (3 * c.loop-x.x-index))
first_is c =
    let q = c.claims-x-items.ensures.claims c.loop-x.x-index (omega arith) in
    c.cell_first-v.ensures.value ∙ rw (c.args.painted.hues, c.wide.ensures, c.wide-in-loop-x.ensures, q)

color_is : (c : After-cell_first-v) → get_or (get_or c.claims-x-items.result.now c.loop-x.x-index []) 2 0 ≡ (claim_at c.args.impacts.now (3 * c.loop-x.x-index)).color
color_is c = ap (λ (l : List ℕ). get_or l 2 0) (c.claims-x-items.ensures.claims c.loop-x.x-index (omega arith))

pub loop-x-init : goal.loop-x-init
loop-x-init c = impacts_first _ c.args.painted.palette.now c.args.premise.literals.now c.args.impacts.now _ _ c.requires.impacts_in_bounds

pub put_impact-to-requires-clause-color_in_bounds : goal.put_impact-to-requires-clause-color_in_bounds
put_impact-to-requires-clause-color_in_bounds c =
    let k = (goal.at.put_impact-to-requires-clause-color_in_bounds c).After-cell_first-v in
    rw (first_is k, color_is k) (emit_room c.loop-x.invariant (omega arith))

pub loop-x-preserved : goal.loop-x-preserved
loop-x-preserved c =
    let k = (goal.at.loop-x-preserved c).After-cell_first-v in
    emit_next c.loop-x.invariant (omega arith) (rw (first_is k, color_is k) at c.put_impact-to.ensures)

pub returns : goal.returns
returns c = impacts_done c.args.painted.shown.board c.args.painted.palette.now c.args.premise.literals.now c.args.impacts.now c.loop-x.invariant (omega arith)
