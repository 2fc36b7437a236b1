-- Document 01, "Colours, blocks and masks": the set bits of a mask, as tests, as powers, and joined again.
use Rattle.std.specs.Prelude.{Bool, cond, ℕ, ◌/◌, ◌%◌, ◌^◌, eqb, ltb, length}
use mathlib.Core.List.{List, [], ◌∷◌, foldl}
use Rattle.std.specs.Int.Bits.{bit_or}
use Rattle.lists.specs.Each.{each, when}

-- bit k is set
unfoldable pub bit : ℕ → ℕ → Bool
bit mask k = eqb (mask / 2 ^ k % 2) 1

-- the set bits as powers, lowest first
unfoldable pub powers : ℕ → List ℕ
powers mask = each 32 (λ k. when (bit mask k) (2 ^ k ∷ []))

-- the words joined by or
unfoldable pub joined : List ℕ → ℕ
joined words = foldl bit_or 0 words

-- the mask with bit k set; a mask has no bit from 32 on
unfoldable pub with_bit : ℕ → ℕ → ℕ
with_bit mask k = cond (ltb k 32) (bit_or mask (2 ^ k)) mask

-- one bit set: solved
unfoldable pub solved : ℕ → Bool
solved mask = eqb (length (powers mask)) 1
