-- Blocks at positions: within the line, and when two of them are in conflict.
use mathlib.Core.Path.{◌≡◌, refl, sym, ◌∙◌}
use mathlib.Core.Bool.{true, false, cond, and-eq-true_iff}
use mathlib.Core.List.{List}
use Prim.Native.Nat.{ℕ, suc, ◌+◌, ◌-◌, ◌≤◌, ◌<◌}
use native.Mathlib.Omega.{arith}
use native.Mathlib.Nat.{add-zero, lt_of_not-le}
use native.Mathlib.Decide.{dec_le}
use lib.ListN.{length}
use lib.Dec.{leb, ltb, eqb}
use borrow.Author.Tests.{eq-eqb, ne_eqb, le-leb, lt-leb, lt-ltb, leb-true, ltb-true, ltb-false, le-ltb}
use Rattle.lines.specs.Clue.{Block, Run, end, gap, packed, min_space, positions, conflict}
use Rattle.lines.specs.Arrangement.{Gap, Proper, at, moved, covers, behind, clash, distance, Meets}
use Rattle.lines.proofs.Packing.{packed_apart, packed_within}

-- two tests that follow from each other
leb_same : (a b c d : ℕ) → (a ≤ b → c ≤ d) → (c ≤ d → a ≤ b) → leb a b ≡ leb c d
leb_same a b c d f h = elim (dec_le a b) [
  | yes x ↦ le-leb a b x ∙ sym (le-leb c d (f x))
  | no x ↦ lt-leb a b (lt_of_not-le x) ∙ sym (lt-leb c d (lt_of_not-le (λ y. x (h y))))
]

-- a run covers the cells from its start to its end
pub covers_is : (r : Run) (t : ℕ) → covers r t ≡ true → (r.start ≤ t) × (t < end r)
covers_is r t h =
    let both = (and-eq-true_iff (leb r.start t) (ltb t (end r))).0 h in
    (leb-true r.start t both.0, ltb-true t (end r) both.1)

pub is_covered : (r : Run) (t : ℕ) → r.start ≤ t → t < end r → covers r t ≡ true
is_covered r t a b = rw (le-leb r.start t a, lt-ltb t (end r) b)

-- from a position behind the cell on, none covers it
pub behind_none : (r : Run) (t i j : ℕ) → behind (moved r i) t ≡ true → i ≤ j → covers (moved r j) t ≡ false
behind_none r t i j h l = rw (lt-leb (r.start + j) t (omega (arith, ltb-true t (r.start + i) h)))

-- document 01's conflict: same colour, end1 >= start2; different colours, end1 > start2
pub conflict_same : (c e s : ℕ) → conflict gap c e c s ≡ leb s e
unfolding conflict gap
conflict_same c e s = rw (eq-eqb c c refl) (leb_same (suc s) (e + 1) s e (λ l. omega arith) (λ l. omega arith))

pub conflict_other : (c e d s : ℕ) → (c ≡ d → ⊥) → conflict gap c e d s ≡ ltb s e
unfolding conflict gap
conflict_other c e d s h = rw (ne_eqb c d h, add-zero)

-- two runs of different colours that cover one cell are in conflict
pub covers_clash : (r q : Run) (t : ℕ) → (r.color ≡ q.color → ⊥) → covers r t ≡ true → covers q t ≡ true → clash gap r q ≡ true
covers_clash r q t other a b =
    let u = covers_is r t a in
    let v = covers_is q t b in
    conflict_other r.color (end r) q.color q.start other ∙ lt-ltb q.start (end r) (omega arith)

-- no conflict, in numbers
pub clear_is : (g : ℕ → ℕ → ℕ) (r q : Run) → clash g r q ≡ false → end r + g r.color q.color ≤ q.start
unfolding conflict
clear_is g r q h = ltb-false q.start (end r + g r.color q.color) h

pub is_clear : (g : ℕ → ℕ → ℕ) (r q : Run) → end r + g r.color q.color ≤ q.start → clash g r q ≡ false
unfolding conflict
is_clear g r q h = le-ltb q.start (end r + g r.color q.color) h

-- a distance, in numbers
pub distance_is : (g : ℕ → ℕ → ℕ) (r q : Run) → q.start - end r + 1 - g r.color q.color ≡ distance g r q
unfolding distance
distance_is g r q = refl

-- two runs that are not in conflict meet where the earlier one is ahead by their distance
pub distance_meets : {g : ℕ → ℕ → ℕ} → Gap g → (r q : Run) → clash g r q ≡ false → Meets g r q (distance g r q)
unfolding distance conflict
distance_meets {g} G r q h =
    let m = G.most r.color q.color in
    let u = clear_is g r q h in
    record {
      some = omega arith;
      meets = λ i j. leb_same (suc (q.start + j)) (r.start + i + r.size + g r.color q.color) (j + distance g r q) i (λ x. omega arith) (λ x. omega arith);
    }

-- document 01's distance: the later start minus the earlier end, plus 1 if the colours differ
pub distance_base : (r q : Run) → distance gap r q ≡ q.start - end r + cond (eqb r.color q.color) 0 1
unfolding distance gap
distance_base r q = elim (eqb r.color q.color) as (λ x. q.start - end r + 1 - cond x 1 0 ≡ q.start - end r + cond x 0 1) [ true ↦ omega arith | false ↦ omega arith ]

-- there is a position
pub positions_some : (g : ℕ → ℕ → ℕ) (n : ℕ) (bs : List Block) → 0 < positions g n bs
unfolding positions
positions_some g n bs = omega arith

-- positions and least space share the line
pub positions_space : (g : ℕ → ℕ → ℕ) (n : ℕ) (bs : List Block) → min_space g bs ≤ n → positions g n bs + min_space g bs ≡ n + 1
unfolding positions
positions_space g n bs h = omega arith

module _ {g : ℕ → ℕ → ℕ} (G : Gap g) {bs : List Block} (p : Proper bs) where
  -- a block at any of its positions is inside the line
  pub moved_within : (n : ℕ) → min_space g bs ≤ n → (i : ℕ) → i < positions g n bs → (b : ℕ) → b < length bs → end (moved (at (packed g bs) b) i) ≤ n
  unfolding positions
  moved_within n h i l b m = omega (arith, packed_within G p b m)

  module _ (a b : ℕ) (h : a < b) (l : b < length bs) where
    -- two blocks of the packed line are not in conflict
    pub packed_clear : clash g (at (packed g bs) a) (at (packed g bs) b) ≡ false
    packed_clear = is_clear g (at (packed g bs) a) (at (packed g bs) b) (packed_apart G p a b h l)

    -- and at their positions they meet by their distance
    pub packed_meets : Meets g (at (packed g bs) a) (at (packed g bs) b) (distance g (at (packed g bs) a) (at (packed g bs) b))
    packed_meets = distance_meets G (at (packed g bs) a) (at (packed g bs) b) packed_clear

    -- never at equal positions
    pub level : (i : ℕ) → clash g (moved (at (packed g bs) a) i) (moved (at (packed g bs) b) i) ≡ false
    level i = packed_meets.meets i i ∙ lt-leb (i + distance g (at (packed g bs) a) (at (packed g bs) b)) i (omega (arith, packed_meets.some))
