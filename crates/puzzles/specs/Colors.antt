-- Document 01, "Colours, blocks and masks": the colour set K, as a mask, and solved cells.
use Rattle.std.specs.Prelude.{Bool, true, ◌&&◌, cond, List, [], ◌∷◌, ℕ, eqb}
use Rattle.std.specs.Int.Bits.{bit_and, bit_or}
use Rattle.bits.specs.Bits.{bit, with_bit, solved}
use Rattle.lines.specs.Clue.{Block}

-- the mask, with the colours of blocks
unfoldable pub with_colors : ℕ → List Block → ℕ
with_colors mask [] = mask
with_colors mask (b ∷ bs) = with_colors (with_bit mask b.color) bs

unfoldable pub with_lines : ℕ → List (List Block) → ℕ
with_lines mask [] = mask
with_lines mask (bs ∷ ls) = with_lines (with_colors mask bs) ls

-- the colours of row blocks, or {1} when no row has a block
unfoldable pub color_set : List (List Block) → ℕ
color_set rows = cond (eqb (with_lines 0 rows) 0) 2 (with_lines 0 rows)

-- every block's colour is in K
unfoldable pub known : ℕ → List Block → Bool
known K [] = true
known K (b ∷ bs) = bit K b.color && known K bs

-- a solved cell's colour is not in K: its bit is neither blank's nor in K
unfoldable pub off_solved : ℕ → ℕ → Bool
off_solved K mask = solved mask && eqb (bit_and mask (bit_or K 1)) 0
