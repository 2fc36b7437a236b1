-- A clue laid on a line: each block a number of cells to the right of its packed place.
use Rattle.std.specs.Prelude.{◌≡◌, Bool, false, ◌&&◌, cond, List, [], ◌∷◌, ℕ, suc, ◌+◌, ◌-◌, ◌≤◌, ◌<◌, length, get_or, leb, ltb}
use Rattle.lists.specs.Each.{tab}
use Rattle.lines.specs.Clue.{Block, Run, end, packed, min_space, positions, conflict}

-- what the theory asks of a gap: 1 between blocks of one colour, at most 1, and none before the first block
pub record Gap (gap : ℕ → ℕ → ℕ) : Type 0 where
  pub same : (c : ℕ) → 0 < c → gap c c ≡ 1
  pub most : (c d : ℕ) → gap c d ≤ 1
  pub first : (d : ℕ) → 0 < d → gap 0 d ≡ 0

-- the b-th block
abbrev pub block_at : List Block → ℕ → Block
block_at bs b = get_or bs b (record { size = 0; color = 0 })

-- every block has a size and a colour
pub record Proper (bs : List Block) : Type 0 where
  pub sizes : (b : ℕ) → b < length bs → 0 < (block_at bs b).size
  pub colors : (b : ℕ) → b < length bs → 0 < (block_at bs b).color

-- the b-th run
abbrev pub at : List Run → ℕ → Run
at R b = get_or R b (record { start = 0; size = 0; color = 0 })

-- the run, i cells to the right
abbrev pub moved : Run → ℕ → Run
moved r i = record { start = r.start + i; size = r.size; color = r.color }

-- the run covers the cell t
abbrev pub covers : Run → ℕ → Bool
covers r t = leb r.start t && ltb t (end r)

-- it begins behind the cell t
abbrev pub behind : Run → ℕ → Bool
behind r t = ltb t r.start

-- an earlier run is in conflict with a later one
abbrev pub clash : (ℕ → ℕ → ℕ) → Run → Run → Bool
clash gap r q = conflict gap r.color (end r) q.color q.start

-- by how much the earlier of two packed runs must move ahead of the later one to meet it
unfoldable pub distance : (ℕ → ℕ → ℕ) → Run → Run → ℕ
distance gap r q = q.start - end r + 1 - gap r.color q.color

-- of two runs, i and j cells to the right, the earlier is in conflict with the later exactly where it is d or more ahead
pub record Meets (gap : ℕ → ℕ → ℕ) (r q : Run) (d : ℕ) : Type 0 where
  pub some : 0 < d
  pub meets : (i j : ℕ) → clash gap (moved r i) (moved q j) ≡ leb (j + d) i

-- each block b at its position o b: within the line, and no two in conflict
pub record Arranged (gap : ℕ → ℕ → ℕ) (n : ℕ) (bs : List Block) (o : ℕ → ℕ) : Type 0 where
  pub fits : min_space gap bs ≤ n
  pub below : (b : ℕ) → b < length bs → o b < positions gap n bs
  pub apart : (a b : ℕ) → a < b → b < length bs → clash gap (moved (at (packed gap bs) a) (o a)) (moved (at (packed gap bs) b) (o b)) ≡ false

-- each run b, o b cells to the right
unfoldable pub placed : List Run → (ℕ → ℕ) → List Run
placed [] o = []
placed (r ∷ R) o = moved r (o 0) ∷ placed R (λ b. o (suc b))

-- the colour of cell t: that of the run that covers it, or blank
unfoldable pub color_at : List Run → ℕ → ℕ
color_at [] t = 0
color_at (r ∷ R) t = cond (covers r t) r.color (color_at R t)

-- the line of n cells that an arrangement shows
unfoldable pub render : (ℕ → ℕ → ℕ) → ℕ → List Block → (ℕ → ℕ) → List ℕ
render gap n bs o = tab n (color_at (placed (packed gap bs) o))

-- two different colours touch only where their gap is 0
abbrev pub Spaced : (ℕ → ℕ → ℕ) → List ℕ → Type 0
Spaced gap l = (t : ℕ) → suc t < length l → 0 < get_or l t 0 → 0 < get_or l (suc t) 0 → (get_or l t 0 ≡ get_or l (suc t) 0 → ⊥) → gap (get_or l t 0) (get_or l (suc t) 0) ≡ 0
