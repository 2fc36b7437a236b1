-- What holds of the text: its numbers are the numbers, and it says its formula and no other.
use Rattle.std.specs.Prelude.{◌≡◌, List, [], ◌∷◌, ℕ, ◌+◌, ◌*◌, ◌-◌, ◌≤◌, ◌<◌, length, get_or}
use Rattle.sections.specs.Sections.{Clause}
use Rattle.dimacs.specs.Text.{digits, text}

-- the number that digits are, read after digits of the number n
unfoldable pub value_from : ℕ → List ℕ → ℕ
value_from n [] = n
value_from n (d ∷ ds) = value_from (10 * n + (d - 48)) ds

-- digit bytes only, no leading zero but for 0 itself, and the value
pub record Digits (n : ℕ) (ds : List ℕ) : Type 0 where
  pub some : 0 < length ds
  pub only : (i : ℕ) → i < length ds → (48 ≤ get_or ds i 0) × (get_or ds i 0 ≤ 57)
  pub leading : 0 < n → 48 < get_or ds 0 0
  pub zero_is : n ≡ 0 → length ds ≡ 1
  pub value_is : value_from 0 ds ≡ n

abbrev pub DigitsAre : Type 0
DigitsAre = (n : ℕ) → Digits n (digits n)

-- two texts that are the same are of one formula
abbrev pub TextOnce : Type 0
TextOnce = (v w : ℕ) (cs ds : List Clause) → text v cs ≡ text w ds → (v ≡ w) × (cs ≡ ds)
