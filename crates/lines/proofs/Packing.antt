-- The packed line: a run for each block, each next one at the end of the one before plus the gap, and the last end is the least space.
use mathlib.Core.Path.{◌≡◌, refl, sym, ap, ◌∙◌}
use mathlib.Core.List.{List, [], ◌∷◌, map}
use Prim.Native.Nat.{ℕ, zero, suc, ◌+◌, ◌-◌, ◌≤◌, ◌<◌}
use native.Mathlib.Omega.{arith}
use native.Mathlib.Decide.{ℕ_discrete}
use lib.ListN.{length, get_or, length-map, get_or-map}
use lib.Dec.{eqb}
use borrow.Author.Tests.{eq-eqb, ne_eqb}
use Rattle.lists.specs.Each.{sum}
use Rattle.lists.proofs.Sums.{sum_least}
use Rattle.lists.proofs.Tests.{cond_most}
use Rattle.lines.specs.Clue.{Block, Run, end, gap, packed_from, packed, starts, last_end, min_space}
use Rattle.lines.specs.Arrangement.{Gap, Proper, block_at, at}

-- the gap of document 01 is one
pub base_gap : Gap gap
unfolding gap
base_gap = record {
  same = λ c h. rw (eq-eqb c c refl);
  most = λ c d. cond_most (eqb c d);
  first = λ d h. rw (ne_eqb 0 d (λ e. omega arith));
}

-- the block of a run, wherever it starts
abbrev pub block : Run → Block
block r = record { size = r.size; color = r.color }

pub block_at_lem : (R : List Run) (b : ℕ) → block_at (map block R) b ≡ block (at R b)
block_at_lem R b = get_or-map block R b (record { start = 0; size = 0; color = 0 })

last_end_at : (s : ℕ) (R : List Run) (b : ℕ) → suc b ≡ length R → last_end s R ≡ end (at R b)
unfolding last_end
last_end_at s [] b e = absurd (omega arith)
last_end_at s (r ∷ []) zero e = refl
last_end_at s (r ∷ []) (suc b) e = absurd (omega arith)
last_end_at s (r ∷ q ∷ R) zero e = absurd (omega arith)
last_end_at s (r ∷ q ∷ R) (suc b) e = last_end_at (end r) (q ∷ R) b (omega arith)

module _ (g : ℕ → ℕ → ℕ) where
  blocks_from : (s c : ℕ) (bs : List Block) → map block (packed_from g s c bs) ≡ bs
  unfolding packed_from
  blocks_from s c [] = refl
  blocks_from s c (b ∷ bs) = ap (λ (l : List Block). b ∷ l) (blocks_from (s + g c b.color + b.size) b.color bs)

  next_from : (s c : ℕ) (bs : List Block) (b : ℕ) → suc b < length bs → let P = packed_from g s c bs in
      (at P (suc b)).start ≡ end (at P b) + g (at P b).color (at P (suc b)).color
  unfolding packed_from
  next_from s c [] b h = absurd (omega arith)
  next_from s c (x ∷ []) b h = absurd (omega arith)
  next_from s c (x ∷ y ∷ bs) zero h = refl
  next_from s c (x ∷ y ∷ bs) (suc b) h = next_from (s + g c x.color + x.size) x.color (y ∷ bs) b (omega arith)

  -- no space for no block
  pub min_space_none : (bs : List Block) → length bs ≡ 0 → min_space g bs ≡ 0
  unfolding min_space packed packed_from last_end
  min_space_none [] e = refl
  min_space_none (b ∷ bs) e = absurd (omega arith)

  module _ (bs : List Block) where
    -- the packed runs are the clue's blocks
    pub packed_blocks : map block (packed g bs) ≡ bs
    unfolding packed
    packed_blocks = blocks_from 0 0 bs

    pub packed_length : length (packed g bs) ≡ length bs
    packed_length = sym (length-map (packed g bs) block) ∙ ap length packed_blocks

    pub packed_at : (b : ℕ) → block (at (packed g bs) b) ≡ block_at bs b
    packed_at b = sym (block_at_lem (packed g bs) b) ∙ ap (λ l. block_at l b) packed_blocks

    -- run b has the size and the colour of block b
    pub packed_size : (b : ℕ) → (at (packed g bs) b).size ≡ (block_at bs b).size
    packed_size b = ap (λ x. x.size) (packed_at b)

    pub packed_color : (b : ℕ) → (at (packed g bs) b).color ≡ (block_at bs b).color
    packed_color b = ap (λ x. x.color) (packed_at b)

    -- the starts as a list
    pub starts_at : (b : ℕ) → get_or (starts (packed g bs)) b 0 ≡ (at (packed g bs) b).start
    starts_at b = get_or-map (λ r. r.start) (packed g bs) b _

    -- each next run starts at the end of the one before, plus the gap
    pub packed_next : (b : ℕ) → suc b < length bs
        → (at (packed g bs) (suc b)).start ≡ end (at (packed g bs) b) + g (at (packed g bs) b).color (at (packed g bs) (suc b)).color
    unfolding packed
    packed_next b h = next_from 0 0 bs b h

    -- the last end is the least space
    pub packed_last : (b : ℕ) → suc b ≡ length bs → end (at (packed g bs) b) ≡ min_space g bs
    unfolding min_space
    packed_last b e = sym (last_end_at 0 (packed g bs) b (e ∙ sym packed_length))

module _ {g : ℕ → ℕ → ℕ} (G : Gap g) {bs : List Block} (p : Proper bs) where
  -- every run has a size and a colour
  pub packed_sized : (b : ℕ) → b < length bs → 0 < (at (packed g bs) b).size
  packed_sized b h = omega (arith, packed_size g bs b, p.sizes b h)

  pub packed_colored : (b : ℕ) → b < length bs → 0 < (at (packed g bs) b).color
  packed_colored b h = omega (arith, packed_color g bs b, p.colors b h)

  -- the first run starts at 0
  pub packed_first : 0 < length bs → (at (packed g bs) 0).start ≡ 0
  packed_first h = go bs h (p.colors 0 h)
    where
      go : (bs : List Block) → 0 < length bs → 0 < (block_at bs 0).color → (at (packed g bs) 0).start ≡ 0
      go [] h c = absurd (omega arith)
      go (b ∷ bs) h c = unfold packed packed_from in omega (arith, G.first b.color c)

  -- the starts ascend with their gaps, for any two runs
  pub packed_apart : (a b : ℕ) → a < b → b < length bs
      → end (at (packed g bs) a) + g (at (packed g bs) a).color (at (packed g bs) b).color ≤ (at (packed g bs) b).start
  packed_apart a zero h l = absurd (omega arith)
  packed_apart a (suc b) h l = elim (ℕ_discrete a b) [
    | yes e ↦ rw e (omega (arith, packed_next g bs b l))
    | no e ↦
        omega (arith, packed_apart a b (omega arith) (omega arith), packed_next g bs b l, packed_sized b (omega arith), G.most (at (packed g bs) a).color (at (packed g bs) (suc b)).color)
  ]

  -- every end is within the least space
  pub packed_within : (b : ℕ) → b < length bs → end (at (packed g bs) b) ≤ min_space g bs
  packed_within b h = elim (ℕ_discrete (suc b) (length bs)) [
    | yes e ↦ omega (arith, packed_last g bs b e)
    | no e ↦ omega (arith, packed_apart b (length bs - 1) (omega arith) (omega arith), packed_last g bs (length bs - 1) (omega arith))
  ]

  -- the sizes of the runs before one of them are behind its start
  sizes_before : (b : ℕ) → b < length bs → sum b (λ a. (at (packed g bs) a).size) ≤ (at (packed g bs) b).start
  unfolding sum
  sizes_before zero h = omega arith
  sizes_before (suc b) h = omega (arith, sizes_before b (omega arith), packed_next g bs b h)

  -- the sizes of all of them are within the least space, and so is their number
  sizes_up : (n : ℕ) → n ≡ length bs → sum n (λ b. (at (packed g bs) b).size) ≤ min_space g bs
  unfolding sum
  sizes_up zero e = omega arith
  sizes_up (suc b) e = omega (arith, sizes_before b (omega arith), packed_within b (omega arith))

  pub sizes_within : sum (length bs) (λ b. (at (packed g bs) b).size) ≤ min_space g bs
  sizes_within = sizes_up (length bs) refl

  pub blocks_within : length bs ≤ min_space g bs
  blocks_within = omega (arith, sizes_within, sum_least (length bs) (λ b. (at (packed g bs) b).size) packed_sized)
