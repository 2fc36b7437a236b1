use mathlib.Core.Path.{◌≡◌, refl}
use mathlib.Core.Bool.{false}
use lib.IntN.{ℤ, pos, negsuc}
use mir.Syntax.{w32}
use mir.Val.{SFits}
use mir.ValLaws.{to_z-of_z}
use Rattle.std.specs.Int.{FitsUnsignedBits}
use Rattle.std.proofs.Common.{rules}
use Rattle.literals.specs.Literals.{is_negative}
use Rattle.refusals.proofs.Passing.{count_on}
use Rattle.formulas.proofs.read.CountedReads.read.Goals as goal

-- a word is a count where it is not negative
a_count : (z : ℤ) → FitsUnsignedBits 64 z → is_negative z ≡ false
a_count (pos n) h = refl
a_count (negsuc n) h = absurd h

pub returns : goal.returns
returns g c =
    let f : SFits w32 c.in-Some.field-0-0.now = search rules in
    let h = rw (to_z-of_z w32 _ f) at c.in-Ok.ensures in
    count_on _ _ _ _ _ _ c.in-Some.ensures.cases.0 (a_count _ h.0) (rw (← h.1) c.read_times.ensures)
