-- The writer of digits: one, or those of the tenth and behind them the last.
use mathlib.Core.Path.{◌≡◌}
use mathlib.Core.List.{List, [], ◌∷◌}
use Prim.Native.Nat.{ℕ, ◌+◌, ◌/◌, ◌%◌, ◌^◌, ◌≤◌, ◌<◌}
use native.Mathlib.Omega.{arith}
use lib.ListN.{length, set, length-append}
use Rattle.lists.specs.Wrote.{Wrote}
use Rattle.lists.proofs.Writing.{wrote_then, wrote_store, wrote_kept}
use Rattle.dimacs.specs.Text.{digit, digits}
use Rattle.dimacs.proofs.NumberText.{digits_one, digits_more, digits_most}

-- no number has more than 20
pub digits_few : (n : ℕ) → n < 2 ^ 64 → length (digits n) ≤ 20
digits_few n h = digits_most 19 n (omega arith)

pub one_long : (n : ℕ) → n < 10 → 1 ≡ length (digits n)
one_long n h = rw (digits_one n h)

pub more_long : (n : ℕ) → 10 ≤ n → length (digits n) ≡ length (digits (n / 10)) + 1
more_long n h = rw (digits_more n h) (length-append (digits (n / 10)) (digit (n % 10) ∷ []))

module _ (n : ℕ) (out : List ℕ) (at : ℕ) (room : at + length (digits n) ≤ length out) where
  module _ (h : n < 10) where
    pub one_room : at < length out
    one_room = omega (arith, one_long n h)

    pub one_wrote : {d : ℕ} → d ≡ digit n → Wrote (digits n) out at (set out at d) (at + 1)
    one_wrote e = rw (digits_one n h, e) (wrote_store out at (digit n) one_room)

  module _ (h : 10 ≤ n) where
    pub tenth_room : at + length (digits (n / 10)) ≤ length out
    tenth_room = omega (arith, more_long n h)

    module _ {out₁ : List ℕ} {to : ℕ} (w : Wrote (digits (n / 10)) out at out₁ to) where
      pub last_room : to < length out₁
      last_room = omega (arith, more_long n h, w.next_is, wrote_kept tenth_room w)

      pub last_wrote : {d : ℕ} → d ≡ digit (n % 10) → Wrote (digits n) out at (set out₁ to d) (to + 1)
      last_wrote e = rw (digits_more n h, e) (wrote_then (omega arith) w (wrote_store out₁ to (digit (n % 10)) last_room))
