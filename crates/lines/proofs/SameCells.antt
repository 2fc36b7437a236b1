-- Two lines with one clue are equal where the second has the coloured cells of the first: it has no more of them.
use mathlib.Core.Path.{◌≡◌, refl, ap}
use mathlib.Core.Bool.{Bool, true, false}
use mathlib.Core.List.{List, [], ◌∷◌, ◌++◌}
use Prim.Native.Nat.{ℕ, zero, suc, ◌+◌, ◌≤◌, ◌<◌}
use native.Mathlib.Omega.{arith}
use lib.ListN.{length, get_or}
use lib.Dec.{eqb}
use borrow.Author.Tests.{ne_eqb, eqb-true}
use Rattle.lines.specs.Clue.{Block}
use Rattle.lines.specs.Line.{run, runs_from, runs}

-- k cells of colour c, where it is not blank
inked : ℕ → ℕ → ℕ
inked zero k = 0
inked (suc c) k = k

-- how many cells of a line are not blank
filled : List ℕ → ℕ
filled [] = 0
filled (x ∷ l) = inked x 1 + filled l

-- how many cells blocks have
total : List Block → ℕ
total [] = 0
total (b ∷ bs) = b.size + total bs

-- ---- the blocks of a line have as many cells as are not blank

total_append : (a b : List Block) → total (a ++ b) ≡ total a + total b
unfolding total
total_append [] b = omega arith
total_append (x ∷ a) b = omega (arith, total_append a b)

total_run : (k c : ℕ) → total (run k c) ≡ inked c k
unfolding total run inked
total_run k zero = refl
total_run k (suc c) = rw (ne_eqb (suc c) 0 (λ e. omega arith)) (omega arith)

inked_more : (c k : ℕ) → inked c (k + 1) ≡ inked c k + inked c 1
unfolding inked
inked_more zero k = refl
inked_more (suc c) k = refl

total_from : (k c : ℕ) (l : List ℕ) → total (runs_from k c l) ≡ inked c k + filled l
unfolding runs_from filled
total_from k c [] = omega (arith, total_run k c)
total_from k c (x ∷ l) = go (eqb x c) refl (total_from (k + 1) c l) (total_from 1 x l)
  where
    go : (b : Bool) → eqb x c ≡ b → total (runs_from (k + 1) c l) ≡ inked c (k + 1) + filled l → total (runs_from 1 x l) ≡ inked x 1 + filled l
        → total (runs_from k c (x ∷ l)) ≡ inked c k + filled (x ∷ l)
    go true e same next = rw (e, eqb-true x c e) (omega (arith, same, inked_more c k))
    go false e same next = rw e (omega (arith, total_append (run k c) (runs_from 1 x l), total_run k c, next))

-- ---- the coloured cells of l, in m

-- no fewer cells of m are coloured, and if no more, the lines are equal
kept : (l m : List ℕ) → length l ≡ length m → ((t : ℕ) → t < length l → 0 < get_or l t 0 → get_or m t 0 ≡ get_or l t 0) → (filled l ≤ filled m) × (filled m ≤ filled l → l ≡ m)
unfolding filled inked
kept [] [] e h = (omega arith, λ f. refl)
kept [] (y ∷ m) e h = absurd (omega arith)
kept (x ∷ l) [] e h = absurd (omega arith)
kept (x ∷ l) (y ∷ m) e h = first x y (h 0 (omega arith)) (kept l m (omega arith) (λ t i. h (suc t) (omega arith)))
  where
    first : (x y : ℕ) → (0 < x → y ≡ x) → (filled l ≤ filled m) × (filled m ≤ filled l → l ≡ m)
        → (filled (x ∷ l) ≤ filled (y ∷ m)) × (filled (y ∷ m) ≤ filled (x ∷ l) → x ∷ l ≡ y ∷ m)
    first zero zero q K = (omega arith, λ f. rw (K.1 (omega arith)))
    first zero (suc y) q K = (omega arith, λ f. absurd (omega arith))
    first (suc x) zero q K = absurd (omega (arith, q (omega arith)))
    first (suc x) (suc y) q K = (omega arith, λ f. rw (q (omega arith), K.1 (omega arith)))

-- two lines of one length and one clue, the coloured cells of the first as in the second, are equal
pub same_cells : (l m : List ℕ) → length l ≡ length m → runs l ≡ runs m → ((t : ℕ) → t < length l → 0 < get_or l t 0 → get_or m t 0 ≡ get_or l t 0) → l ≡ m
unfolding runs inked
same_cells l m e r h = (kept l m e h).1 (omega (arith, total_from 0 0 l, total_from 0 0 m, ap total r))
