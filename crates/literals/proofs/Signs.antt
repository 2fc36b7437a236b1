-- A word is v or -v of its variable v, and no two literals have one word.
use mathlib.Core.Path.{◌≡◌, refl, sym, ap, ◌∙◌}
use mathlib.Core.Bool.{true, false, true≢false, false≢true}
use Prim.Native.Nat.{ℕ, zero, suc, ◌<◌, zero-le}
use native.Mathlib.Omega.{arith}
use borrow.Author.Tests.{le-ltb}
use lib.IntN.{ℤ, pos, negsuc}
use lib.Signed.{lt_z}
use Rattle.literals.specs.Literals.{positive, negative, variable, is_negative}

pub variable_negative : (v : ℕ) → variable (negative v) ≡ v
variable_negative zero = refl
variable_negative (suc v) = refl

pub sign_negative : (v : ℕ) → 0 < v → is_negative (negative v) ≡ true
sign_negative zero h = absurd (omega arith)
sign_negative (suc v) h = refl

pub positive_apart : (v w : ℕ) → positive v ≡ positive w → v ≡ w
positive_apart v w e = ap variable e

pub negative_apart : (v w : ℕ) → negative v ≡ negative w → v ≡ w
negative_apart v w e = sym (variable_negative v) ∙ ap variable e ∙ variable_negative w

pub signs_apart : (v w : ℕ) → 0 < w → positive v ≡ negative w → ⊥
signs_apart v w h e = false≢true (ap is_negative e ∙ sign_negative w h)

pub is_positive : (z : ℤ) → is_negative z ≡ false → z ≡ positive (variable z)
is_positive (pos n) e = refl
is_positive (negsuc n) e = absurd (true≢false e)

pub is_negative_lem : (z : ℤ) → is_negative z ≡ true → z ≡ negative (variable z)
is_negative_lem (pos n) e = absurd (false≢true e)
is_negative_lem (negsuc n) e = refl

-- the sign test
pub below_zero : (z : ℤ) → lt_z z (pos 0) ≡ is_negative z
below_zero (pos n) = le-ltb n 0 zero-le
below_zero (negsuc n) = refl
