use native.Mathlib.Omega.{arith}
use Prim.Native.Nat.{◌+◌}
use mathlib.Core.Path.{◌∙◌}
use lib.ListN.{set, length-drop, length-set}
use lib.Seq.{length-take-le}
use Rattle.grids.proofs.CellMasks.{masks_wrote}
use Rattle.grids.proofs.masks.put_masks.Goals as goal

pub returns : goal.returns
returns c =
    let out = c.args.out.now in
    let stored = set out c.args.from c.args.n in
    let whole = length-take-le _ _ (omega (arith, c.requires.1, length-drop (c.args.from + 1) stored, length-set out c.args.from c.args.n)) ∙ omega arith in
    masks_wrote _ _ out _ c.requires.1 whole (c.fill.ensures.after (λ y e. e))
