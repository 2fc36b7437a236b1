-- A line that grows by a cell: it has two words more where that cell begins a run.
use mathlib.Core.Path.{◌≡◌, refl}
use mathlib.Core.Bool.{Bool, true, false, cond, ◌||◌}
use mathlib.Core.List.{List, [], ◌∷◌, ◌++◌}
use Prim.Native.Nat.{ℕ, zero, suc, ◌+◌, ◌*◌, ◌≤◌}
use native.Mathlib.Omega.{arith}
use lib.ListN.{length}
use lib.Dec.{eqb}
use Rattle.lists.specs.Each.{each, tab}
use Rattle.runs.specs.Begins.{begins}
use Rattle.lines.specs.Calls.{line_words}
use Rattle.runs.proofs.LineCells.{begun, line_begun, two_begins}

-- ---- a cell of colour x after one of colour c

module _ (c x : ℕ) where
  pub begins_most : begins c x ≤ 1
  unfolding begins
  begins_most = go (eqb x c || eqb x 0)
    where
      go : (b : Bool) → cond b 0 1 ≤ 1
      go true = omega arith
      go false = omega arith

  begun_one : begun c (x ∷ []) ≡ 2 * begins c x
  unfolding begun
  begun_one = omega (arith, two_begins c x)

-- ---- a line and what comes after it

-- the colour of the last cell, or c
ending : ℕ → List ℕ → ℕ
ending c [] = c
ending c (x ∷ l) = ending x l

begun_append : (c : ℕ) (l m : List ℕ) → begun c (l ++ m) ≡ begun c l + begun (ending c l) m
unfolding begun ending
begun_append c [] m = omega arith
begun_append c (x ∷ l) m = omega (arith, begun_append x l m)

ending_last : (c : ℕ) (l : List ℕ) (x : ℕ) → ending c (l ++ (x ∷ [])) ≡ x
unfolding ending
ending_last c [] x = refl
ending_last c (y ∷ l) x = ending_last y l x

-- ---- the line f 0, f 1, ..

-- the colour before cell n
unfoldable pub before : ℕ → (ℕ → ℕ) → ℕ
before zero f = 0
before (suc n) f = f n

tab_ending : (n : ℕ) (f : ℕ → ℕ) → ending 0 (tab n f) ≡ before n f
unfolding tab each before ending
tab_ending zero f = refl
tab_ending (suc n) f = ending_last 0 (tab n f) (f n)

pub words_none : (f : ℕ → ℕ) → length (line_words (tab 0 f)) ≡ 0
unfolding tab each begun
words_none f = line_begun (tab 0 f)

pub words_grow : (n : ℕ) (f : ℕ → ℕ) → length (line_words (tab (suc n) f)) ≡ length (line_words (tab n f)) + 2 * begins (before n f) (f n)
unfolding tab each
words_grow n f =
    let last : begun (ending 0 (tab n f)) (f n ∷ []) ≡ 2 * begins (before n f) (f n) = rw (tab_ending n f) (begun_one (before n f) (f n)) in
    omega (arith, line_begun (tab (suc n) f), line_begun (tab n f), begun_append 0 (tab n f) (f n ∷ []), last)
