-- A clue's words, two at a time, as the loops walk them.
use mathlib.Core.Path.{◌≡◌, refl, sym, ap, ◌∙◌}
use mathlib.Core.Bool.{true, false}
use mathlib.Core.List.{List, [], ◌∷◌}
use Prim.Native.Nat.{ℕ, zero, suc, ◌+◌, ◌-◌, ◌*◌, ◌/◌, ◌≤◌, ◌<◌}
use native.Mathlib.Omega.{arith}
use lib.Dec.{eqb}
use lib.ListN.{length, drop, get_or, set, length-map, drop_of_length-le}
use borrow.Author.Tests.{eq-eqb, ne_eqb}
use Rattle.std.specs.Simd.{first_chunks}
use Rattle.std.proofs.lemmas.List.{get_or-map}
use Rattle.lists.specs.Wrote.{Wrote}
use Rattle.lists.proofs.Dropping.{drop_one}
use Rattle.lists.proofs.Writing.{Filling, fill_first, fill_as, fill_space, fill_store, fill_done, wrote_then, wrote_sets}
use Rattle.refusals.specs.Verdict.{Checks, passed, refused, refuse}
use Rattle.lines.specs.Clue.{Block, words, blocks, gap, packed_from, packed, starts, last_end, min_space, positions}
use Rattle.lines.specs.Arrangement.{block_at, at}
use Rattle.lines.specs.Calls.{off_color, pairs, block_checks, starts_words}
use Rattle.lines.proofs.Packing.{starts_at}

-- ---- the blocks in pairs

pub blocks_length : (l : List ℕ) → length (blocks l) ≡ length l / 2
unfolding blocks
blocks_length [] = refl
blocks_length (x ∷ []) = refl
blocks_length (x ∷ y ∷ l) = omega (arith, blocks_length l)

chunked : (l : List ℕ) (k : ℕ) → k ≡ length (blocks l) → first_chunks 2 k l ≡ pairs (blocks l)
unfolding blocks
chunked [] zero e = refl
chunked [] (suc k) e = absurd (omega (arith, e))
chunked (x ∷ []) zero e = refl
chunked (x ∷ []) (suc k) e = absurd (omega (arith, e))
chunked (x ∷ y ∷ l) zero e = absurd (omega (arith, e))
chunked (x ∷ y ∷ l) (suc k) e = ap (λ (t : List (List ℕ)). (x ∷ y ∷ []) ∷ t) (chunked l k (omega (arith, e)))

pub chunks_pairs : (l : List ℕ) → first_chunks 2 (length l / 2) l ≡ pairs (blocks l)
chunks_pairs l = chunked l (length l / 2) (sym (blocks_length l))

-- a block is two of the words
block_is : (l : List ℕ) (b : ℕ) → b < length (blocks l) → block_at (blocks l) b ≡ record { size = get_or l (2 * b) 0; color = get_or l (2 * b + 1) 0 }
unfolding blocks
block_is [] b h = absurd (omega arith)
block_is (x ∷ []) b h = absurd (omega arith)
block_is (x ∷ y ∷ l) zero h = refl
block_is (x ∷ y ∷ l) (suc b) h =
    let e : 2 * suc b ≡ suc (suc (2 * b)) = omega arith in
    let f : 2 * suc b + 1 ≡ suc (suc (2 * b + 1)) = omega arith in
    block_is l b (omega arith) ∙ rw (f, e)

-- the next of the blocks from b on
abbrev pub NextBlock : List Block → ℕ → ℕ → ℕ → Type 0
NextBlock bs b size color = drop b bs ≡ record { size = size; color = color } ∷ drop (b + 1) bs

-- pair b is block b
module _ (bs : List Block) {ps : List (List ℕ)} (e : ps ≡ pairs bs) {b : ℕ} (h : b < length ps) where
  within : b < length bs
  within = omega (arith, h, ap length e, length-map bs (λ b. b.size ∷ b.color ∷ []))

  pair_is : get_or ps b [] ≡ (block_at bs b).size ∷ (block_at bs b).color ∷ []
  pair_is = ap (λ ps. get_or ps b []) e ∙ get_or-map (λ (b : Block). b.size ∷ b.color ∷ []) bs b _ _ within

  pub pair_next : NextBlock bs b (get_or (get_or ps b []) 0 0) (get_or (get_or ps b []) 1 0)
  pair_next = rw pair_is (drop_one (record { size = 0; color = 0 }) bs b within)

pub pairs_length : (l : List ℕ) {ps : List (List ℕ)} → ps ≡ pairs (blocks l) → length ps ≡ length l / 2
pairs_length l e = ap length e ∙ length-map (blocks l) (λ b. b.size ∷ b.color ∷ []) ∙ blocks_length l

module _ (l : List ℕ) {ps : List (List ℕ)} (e : ps ≡ pairs (blocks l)) {b : ℕ} (h : b < length ps) where
  pub pair_word : get_or (get_or ps b []) 0 0 ≡ get_or l (2 * b) 0
  pair_word = ap (λ p. get_or p 0 0) (pair_is (blocks l) e h) ∙ ap (λ (r : Block). r.size) (block_is l b (within (blocks l) e h))

-- all of them have been passed
pub pairs_done : (bs : List Block) {ps : List (List ℕ)} → ps ≡ pairs bs → {b : ℕ} → length ps ≤ b → drop b bs ≡ []
pairs_done bs e h = drop_of_length-le bs (omega (arith, h, ap length e, length-map bs (λ b. b.size ∷ b.color ∷ [])))

-- ---- the check of the words

-- 4 and 5 by block, from word i on
of_blocks : ℕ → List Block → Checks
of_blocks i [] = passed
of_blocks i (b ∷ bs) = refuse (eqb b.size 0) 4 i (refuse (off_color b.color) 5 (i + 1) (of_blocks (i + 2) bs))

by_blocks : (i : ℕ) (l : List ℕ) → block_checks i l ≡ of_blocks i (blocks l)
unfolding block_checks blocks of_blocks
by_blocks i [] = refl
by_blocks i (x ∷ []) = refl
by_blocks i (x ∷ y ∷ l) = rw (by_blocks (i + 2) l)

-- a loop that has passed b blocks
pub record Checking (clue : List ℕ) (b : ℕ) : Type 0 where
  same : block_checks 0 clue ≡ of_blocks (2 * b) (drop b (blocks clue))

pub checking_first : (clue : List ℕ) → Checking clue 0
checking_first clue = record { same = by_blocks 0 clue }

module _ {clue : List ℕ} {b : ℕ} (C : Checking clue b) where
  module _ {size color : ℕ} (h : NextBlock (blocks clue) b size color) where
    next : block_checks 0 clue ≡ refuse (eqb size 0) 4 (2 * b) (refuse (off_color color) 5 (2 * b + 1) (of_blocks (2 * b + 2) (drop (b + 1) (blocks clue))))
    unfolding of_blocks
    next = C.same ∙ rw h

    pub check_size : size ≡ 0 → refused 4 (2 * b) ≡ block_checks 0 clue
    check_size e = sym (next ∙ rw (eq-eqb _ _ e))

    pub check_color : (size ≡ 0 → ⊥) → off_color color ≡ true → refused 5 (2 * b + 1) ≡ block_checks 0 clue
    check_color n e = sym (next ∙ rw (ne_eqb _ _ n, e))

    pub check_next : (size ≡ 0 → ⊥) → off_color color ≡ false → Checking clue (b + 1)
    check_next n e = let two : 2 * (b + 1) ≡ 2 * b + 2 = omega arith in record { same = next ∙ rw (ne_eqb _ _ n, e, two) }

  pub check_done : drop b (blocks clue) ≡ [] → passed ≡ block_checks 0 clue
  unfolding of_blocks
  check_done e = sym (C.same ∙ rw e)

-- ---- the packed runs

-- the end is not before where one stands
end_from : (g : ℕ → ℕ → ℕ) (at c : ℕ) (bs : List Block) → at ≤ last_end at (packed_from g at c bs)
unfolding packed_from last_end
end_from g at c [] = omega arith
end_from g at c (b ∷ bs) = omega (arith, end_from g (at + g c b.color + b.size) b.color bs)

-- a loop that has passed b blocks of a clue: the last of them ended at `at` and has the colour c
pub record Walk (clue : List ℕ) (at c b : ℕ) : Type 0 where
  pub ends : min_space gap (blocks clue) ≡ last_end at (packed_from gap at c (drop b (blocks clue)))

pub walk_first : (clue : List ℕ) → Walk clue 0 0 0
unfolding min_space packed
walk_first clue = record { ends = refl }

module _ {clue : List ℕ} {at c b : ℕ} (W : Walk clue at c b) where
  -- the end of the last block is not before it
  pub walk_low : at ≤ min_space gap (blocks clue)
  walk_low = omega (arith, W.ends, end_from gap at c (drop b (blocks clue)))

  -- at the end it is the least space
  pub walk_done : drop b (blocks clue) ≡ [] → at ≡ min_space gap (blocks clue)
  unfolding packed_from last_end
  walk_done e = sym (W.ends ∙ rw e)

  module _ {size color : ℕ} (h : NextBlock (blocks clue) b size color) where
    pub walk_run : packed_from gap at c (drop b (blocks clue))
        ≡ record { start = at + gap c color; size = size; color = color } ∷ packed_from gap (at + gap c color + size) color (drop (b + 1) (blocks clue))
    unfolding packed_from
    walk_run = rw h

    pub walk_next : Walk clue (at + gap c color + size) color (b + 1)
    unfolding last_end
    walk_next = record { ends = W.ends ∙ rw walk_run }

  pub walk_end : drop b (blocks clue) ≡ [] → packed_from gap at c (drop b (blocks clue)) ≡ []
  unfolding packed_from
  walk_end e = rw e

-- as many starts as blocks
pub starts_count : (g : ℕ → ℕ → ℕ) (at c : ℕ) (bs : List Block) → length (starts (packed_from g at c bs)) ≡ length bs
unfolding packed_from
starts_count g at c [] = refl
starts_count g at c (b ∷ bs) = ap (λ (n : ℕ). suc n) (starts_count g (at + g c b.color + b.size) b.color bs)

-- ---- the loop that writes the starts

pub record Starting (clue out₀ : List ℕ) (from : ℕ) (out : List ℕ) (at c b : ℕ) : Type 0 where
  pub walk : Walk clue at c b
  pub fill : Filling (starts (packed gap (blocks clue))) out₀ from (starts (packed_from gap at c (drop b (blocks clue)))) out (from + b)

pub starting_first : (clue out : List ℕ) (from : ℕ) → from + length clue / 2 ≤ length out → Starting clue out from out 0 0 0
unfolding packed
starting_first clue out from h = record {
  walk = walk_first clue;
  fill = let z : from + 0 ≡ from = omega arith in rw z (fill_first _ out from (omega (arith, starts_count gap 0 0 (blocks clue), blocks_length clue)) refl);
}

module _ {clue out₀ out : List ℕ} {from at c b : ℕ} (S : Starting clue out₀ from out at c b) where
  module _ {size color g : ℕ} (h : NextBlock (blocks clue) b size color) (e : g ≡ gap c color) where
    step : Filling (starts (packed gap (blocks clue))) out₀ from ((at + g) ∷ starts (packed_from gap (at + g + size) color (drop (b + 1) (blocks clue)))) out (from + b)
    step = fill_as S.fill (ap starts (walk_run S.walk h) ∙ rw e)

    pub starting_room : from + b < length out
    starting_room = fill_space step

    pub starting_low : at + g + size ≤ min_space gap (blocks clue)
    starting_low = rw e (walk_low (walk_next S.walk h))

    pub starting_next : Starting clue out₀ from (set out (from + b) (at + g)) (at + g + size) color (b + 1)
    starting_next = record { walk = rw e (walk_next S.walk h); fill = let n : from + (b + 1) ≡ from + b + 1 = omega arith in rw n (fill_store step) }

  pub starting_done : drop b (blocks clue) ≡ [] → b ≡ length clue / 2 → Wrote (starts (packed gap (blocks clue))) out₀ from out (from + length clue / 2)
  starting_done h e = rw (← e) (fill_done S.fill (ap starts (walk_end S.walk h)))

-- ---- what the starts call writes

pub starts_words_length : (n : ℕ) (clue : List ℕ) → length (starts_words n clue) ≡ 2 + length clue / 2
unfolding starts_words packed
starts_words_length n clue = omega (arith, starts_count gap 0 0 (blocks clue), blocks_length clue)

-- the first two words are stored, and then the starts are written
pub starts_wrote : (n : ℕ) (clue out : List ℕ) {p space used : ℕ} {out' : List ℕ} → p ≡ n - space + 1 → space ≡ min_space gap (blocks clue) → 2 ≤ length out
    → Wrote (starts (packed gap (blocks clue))) (set (set out 0 p) 1 space) 2 out' used → Wrote (starts_words n clue) out 0 out' used
unfolding starts_words positions
starts_wrote n clue out {p} {space} e m h w = rw (← m, ← e) (wrote_then (omega arith) (wrote_sets (p ∷ space ∷ []) out 0 h) w)

-- ---- a clue's words and its blocks

pub words_length : (bs : List Block) → length (words bs) ≡ 2 * length bs
unfolding words
words_length [] = refl
words_length (b ∷ bs) = omega (arith, words_length bs)

-- one block after another
pub words_none : words [] ≡ []
unfolding words
words_none = refl

pub words_next : (b : Block) (bs : List Block) → words (b ∷ bs) ≡ b.size ∷ b.color ∷ words bs
unfolding words
words_next b bs = refl

-- size and colour of block b
pub word_size : (bs : List Block) (b : ℕ) → get_or (words bs) (2 * b) 0 ≡ (block_at bs b).size
unfolding words
word_size [] b = refl
word_size (x ∷ bs) zero = refl
word_size (x ∷ bs) (suc b) = let e : 2 * suc b ≡ suc (suc (2 * b)) = omega arith in rw e (word_size bs b)

pub word_color : (bs : List Block) (b : ℕ) → get_or (words bs) (2 * b + 1) 0 ≡ (block_at bs b).color
unfolding words
word_color [] b = refl
word_color (x ∷ bs) zero = refl
word_color (x ∷ bs) (suc b) = let e : 2 * suc b + 1 ≡ suc (suc (2 * b + 1)) = omega arith in rw e (word_color bs b)

pub blocks_words : (bs : List Block) → blocks (words bs) ≡ bs
unfolding words blocks
blocks_words [] = refl
blocks_words (b ∷ bs) = rw (blocks_words bs)

-- ---- what the starts call writes of a clue

module _ (n : ℕ) (bs : List Block) where
  pub starts_size : length (starts_words n (words bs)) ≡ 2 + length bs
  starts_size = omega (arith, starts_words_length n (words bs), words_length bs)

  pub starts_positions : get_or (starts_words n (words bs)) 0 0 ≡ positions gap n bs
  unfolding starts_words
  starts_positions = rw (blocks_words bs)

  pub starts_start : (b : ℕ) → get_or (starts_words n (words bs)) (2 + b) 0 ≡ (at (packed gap bs) b).start
  unfolding starts_words
  starts_start b =
      let e : 2 + b ≡ suc (suc b) = omega arith in
      rw (blocks_words bs, e) (starts_at gap bs b)

-- with no block there is one position more than cells, and never more
pub positions_bound : (n : ℕ) (bs : List Block) → positions gap n bs ≤ n + 1
unfolding positions
positions_bound n bs = omega arith
