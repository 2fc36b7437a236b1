-- How many cells a run covers, and at how many positions it covers a cell.
use mathlib.Core.Path.{◌≡◌, ◌∙◌, refl}
use mathlib.Core.Bool.{Bool, true, false, cond, ◌&&◌}
use Prim.Native.Nat.{ℕ, zero, suc, ◌+◌, ◌-◌, ◌≤◌, ◌<◌}
use native.Mathlib.Omega.{arith}
use native.Mathlib.Decide.{dec_le, dec_lt}
use lib.Dec.{leb, ltb}
use borrow.Author.Tests.{le-leb, lt-leb, lt-ltb, le-ltb}
use Rattle.lists.specs.Each.{sum}
use Rattle.lines.specs.Clue.{Run, end}
use Rattle.lines.specs.Arrangement.{moved, covers}
use Rattle.lines.proofs.Moving.{covers_is}

-- the cells from a up to b, of n
interval : (n a b : ℕ) → a ≤ b → sum n (λ t. cond (leb a t && ltb t b) 1 0) ≡ (n - a) - (n - b)
unfolding sum
interval zero a b h = omega arith
interval (suc n) a b h = omega (arith, interval n a b h, step)
  where
    step : cond (leb a n && ltb n b) 1 0 + ((n - a) - (n - b)) ≡ (suc n - a) - (suc n - b)
    step = elim (dec_le a n) [
      | yes l ↦ elim (dec_lt n b) [
        | yes m ↦ rw (le-leb a n l, lt-ltb n b m) (omega arith)
        | no m ↦ rw (le-leb a n l, le-ltb n b (omega arith)) (omega arith)
      ]
      | no l ↦ rw (lt-leb a n (omega arith)) (omega arith)
    ]

-- a run covers as many cells as it has
pub covers_cells : (n : ℕ) (r : Run) → end r ≤ n → sum n (λ t. cond (covers r t) 1 0) ≡ r.size
covers_cells n r h = interval n r.start (end r) (omega arith) ∙ omega arith

-- one more, or none, with both bounds
grow : (b : Bool) (s p lo hi : ℕ) → (b ≡ true → (lo ≤ p) × (p < hi)) → (s ≤ p - lo) × (s ≤ hi - lo) → (s + cond b 1 0 ≤ suc p - lo) × (s + cond b 1 0 ≤ hi - lo)
grow true s p lo hi r h =
    let q = r refl in
    (omega arith, omega arith)
grow false s p lo hi r h = (omega arith, omega arith)

module _ (r : Run) (t : ℕ) where
  -- those that cover t begin at t + 1 - end r and end before t + 1 - start
  within : (p : ℕ) → (sum p (λ i. cond (covers (moved r i) t) 1 0) ≤ p - (t + 1 - end r)) × (sum p (λ i. cond (covers (moved r i) t) 1 0) ≤ t + 1 - r.start - (t + 1 - end r))
  unfolding sum
  within zero = (omega arith, omega arith)
  within (suc p) = grow (covers (moved r p) t) _ p (t + 1 - end r) (t + 1 - r.start) (λ e. let q = covers_is (moved r p) t e in (omega arith, omega arith)) (within p)

  -- a run covers a cell at no more positions than it has cells
  pub covers_most : (p : ℕ) → sum p (λ i. cond (covers (moved r i) t) 1 0) ≤ r.size
  covers_most p = omega (arith, (within p).1)
