-- Signed words go by their bits: they are kept, widened and negated.
use mathlib.Core.Path.{◌≡◌, ◌∙◌}
use Prim.Native.Nat.{zero, suc, ◌≤◌, ◌<◌, ◌^◌, zero-le}
use native.Mathlib.Omega.{arith}
use native.Mathlib.Nat.{le_refl}
use lib.IntN.{ℤ, pos, negsuc, neg_ℤ, nat_abs, ◌-ℤ◌, +ℤ_idl}
use lib.Signed.{mag, nat_abs-le}
use mir.Syntax.{Width, w32, w64}
use mir.Val.{SFits, to_z, of_z, hbits}
use mir.ValLaws.{to_z-of_z}

-- a word is that of its bits
pub word_is : (z : ℤ) → mag z < 2147483648 → to_z w32 (of_z w32 z) ≡ z
word_is z m = to_z-of_z w32 z (record { sfits = m })

mag_minus : (z : ℤ) → mag (neg_ℤ z) ≤ nat_abs z
mag_minus (pos zero) = zero-le
mag_minus (pos (suc n)) = omega arith
mag_minus (negsuc n) = le_refl (suc n)

-- `-w`, at any width
module _ (w : Width) (z : ℤ) (h : nat_abs z < 2 ^ hbits w) where
  pub minus_fits : SFits w (pos 0 -ℤ z)
  minus_fits = rw +ℤ_idl (record { sfits = omega (arith, mag_minus z) })

  pub minus_is : to_z w (of_z w (pos 0 -ℤ z)) ≡ neg_ℤ z
  minus_is = to_z-of_z w (pos 0 -ℤ z) minus_fits ∙ +ℤ_idl (neg_ℤ z)

-- `w as i64`, and its negation
module _ (z : ℤ) (m : mag z < 2147483648) where
  pub wide_fits : SFits w64 (to_z w32 (of_z w32 z))
  wide_fits = rw (word_is z m) (record { sfits = omega arith })

  pub wide_is : to_z w64 (of_z w64 (to_z w32 (of_z w32 z))) ≡ z
  wide_is = to_z-of_z w64 (to_z w32 (of_z w32 z)) wide_fits ∙ word_is z m

  pub wide_minus_fits : SFits w64 (pos 0 -ℤ to_z w64 (of_z w64 (to_z w32 (of_z w32 z))))
  wide_minus_fits = rw wide_is (minus_fits w64 z (omega (arith, nat_abs-le z m)))

  pub wide_minus_is : to_z w64 (of_z w64 (pos 0 -ℤ to_z w64 (of_z w64 (to_z w32 (of_z w32 z))))) ≡ neg_ℤ z
  wide_minus_is = rw wide_is (minus_is w64 z (omega (arith, nat_abs-le z m)))
