-- Document 01, "Line rules": clues, starts, least space, positions, colour ranges, conflict.
-- What may touch is in `gap` alone; all else is over any gap.
use Rattle.std.specs.Prelude.{Bool, cond, List, [], ◌∷◌, ◌++◌, map, ℕ, ◌+◌, ◌-◌, eqb, ltb}
use Rattle.lists.specs.Each.{when}

pub record Block : Type 0 where
  pub size : ℕ
  pub color : ℕ

-- a block that starts at a cell
pub record Run : Type 0 where
  pub start : ℕ
  pub size : ℕ
  pub color : ℕ

abbrev pub end : Run → ℕ
end r = r.start + r.size

-- a clue's words: a size and a colour per block
unfoldable pub words : List Block → List ℕ
words [] = []
words (b ∷ bs) = b.size ∷ b.color ∷ words bs

unfoldable pub blocks : List ℕ → List Block
blocks [] = []
blocks (size ∷ []) = []
blocks (size ∷ color ∷ ws) = record { size = size; color = color } ∷ blocks ws

-- 1 if the two share a colour
unfoldable pub gap : ℕ → ℕ → ℕ
gap c d = cond (eqb c d) 1 0

-- the blocks, each as early as it can be, after a block of colour c that ended at `at` (at the beginning of the line: 0 and 0)
unfoldable pub packed_from : (ℕ → ℕ → ℕ) → ℕ → ℕ → List Block → List Run
packed_from gap at c [] = []
packed_from gap at c (b ∷ bs) =
    let start = at + gap c b.color in
    record { start = start; size = b.size; color = b.color } ∷ packed_from gap (start + b.size) b.color bs

unfoldable pub packed : (ℕ → ℕ → ℕ) → List Block → List Run
packed gap bs = packed_from gap 0 0 bs

abbrev pub starts : List Run → List ℕ
starts R = map (λ r. r.start) R

-- the end of the last run, or `at` for none
unfoldable pub last_end : ℕ → List Run → ℕ
last_end at [] = at
last_end at (r ∷ R) = last_end (end r) R

-- the least space
unfoldable pub min_space : (ℕ → ℕ → ℕ) → List Block → ℕ
min_space gap bs = last_end 0 (packed gap bs)

-- the positions of each block on a line of n cells
unfoldable pub positions : (ℕ → ℕ → ℕ) → ℕ → List Block → ℕ
positions gap n bs = n - min_space gap bs + 1

-- the runs of one colour
unfoldable pub of_color : ℕ → List Run → List Run
of_color k [] = []
of_color k (r ∷ R) = when (eqb r.color k) (r ∷ []) ++ of_color k R

-- the first run's start, and the last run's end plus `slack`; zeros for none
unfoldable pub range : ℕ → List Run → List ℕ
range slack [] = 0 ∷ 0 ∷ []
range slack (r ∷ R) = r.start ∷ (last_end (end r) R + slack) ∷ []

-- of an earlier block of colour c that ends at e, with a later one of colour d that starts at s
unfoldable pub conflict : (ℕ → ℕ → ℕ) → ℕ → ℕ → ℕ → ℕ → Bool
conflict gap c e d s = ltb s (e + gap c d)
