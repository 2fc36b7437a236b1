use native.Mathlib.Omega.{arith}
use Rattle.numbering.proofs.Palettes.{palette_first, palette_skip, palette_room, palette_next, palette_done}
use Rattle.numbering.proofs.palette.Goals as goal

pub loop-k-init : goal.loop-k-init
loop-k-init c = palette_first _ _ c.requires

pub loop-k-preserved-then-not-has : goal.loop-k-preserved-then-not-has
loop-k-preserved-then-not-has c = palette_skip _ c.loop-k.invariant c.loop-k-test.true c.has.ensures (c.if-not-has.true)

pub bounds-out-at : goal.bounds-out-at
bounds-out-at c = omega (arith, palette_room _ c.loop-k.invariant c.loop-k-test.true c.has.ensures (c.if-not-has.false))

pub loop-k-preserved : goal.loop-k-preserved
loop-k-preserved c = palette_next _ c.loop-k.invariant c.loop-k-test.true c.has.ensures (c.if-not-has.false)

pub returns : goal.returns
returns c = palette_done _ c.loop-k.invariant c.loop-k-test.false
