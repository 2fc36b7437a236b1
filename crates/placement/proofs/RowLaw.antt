-- The law of the row: document 01's conflicts of a pair of blocks, as clauses of one position with the first positions of the later block.
use mathlib.Core.Path.{◌≡◌, refl, ◌∙◌}
use mathlib.Core.Bool.{Bool}
use mathlib.Core.List.{List, [], ◌∷◌}
use Prim.Native.Nat.{ℕ, ◌+◌, ◌-◌, ◌≤◌, ◌<◌}
use native.Mathlib.Omega.{arith}
use lib.IntN.{ℤ}
use lib.ListN.{length}
use lib.Dec.{leb}
use borrow.Author.Tests.{le-leb, lt-leb}
use Rattle.lists.proofs.Emitting.{EmittingFrom}
use Rattle.sections.proofs.ClauseLists.{say_from, say_from_done}
use Rattle.lists.specs.Each.{each, tab, pairs, product, when}
use Rattle.lists.specs.Wrote.{Wrote}
use Rattle.lists.proofs.Eaches.{each_same, each_late, each_early}
use Rattle.sections.specs.Sections.{clauses_words, not_both, row}
use Rattle.lines.specs.Clue.{gap}
use Rattle.lines.specs.Arrangement.{at, Meets}
use Rattle.numbering.specs.Variables.{Line, many, first_of, variable}
use Rattle.placement.specs.Placement.{conflicts, non_overlap}
use Rattle.placement.specs.PairRows.{rows_from, later_pairs}

row_none : (x y n : ℕ) → n ≡ 0 → row x y n ≡ []
unfolding row tab each
row_none x y n e = rw e

-- x, with those of p variables that are behind by d or more
row_is : (p d i x y : ℕ) (t : ℕ → Bool) → 0 < d → i < p → ((j : ℕ) → t j ≡ leb (j + d) i) → each p (λ j. when (t j) (not_both x (y + j) ∷ [])) ≡ row x y (i + 1 - d)
unfolding row tab
row_is p d i x y t h l e =
    each_early (i + 1 - d) p _ _ (omega arith)
    (λ k m. rw (e k ∙ le-leb (k + d) i (omega arith)))
    (λ k m. rw (e k ∙ lt-leb (k + d) i (omega arith)))

-- ---- the rows of a pair

module _ (va vb d p : ℕ) where
  -- the first d are empty
  pub rows_late : rows_from va vb d p ≡ each (p - d) (λ k. row (va + (d + k)) vb (d + k + 1 - d))
  rows_late = each_late d p (λ i. row (va + i) vb (i + 1 - d)) (λ k h. row_none (va + k) vb (k + 1 - d) (omega arith))

  pub rows_first : (out : List ℤ) (to : ℕ) → to + length (clauses_words (rows_from va vb d p)) ≤ length out → EmittingFrom d p (λ i. clauses_words (row (va + i) vb (i + 1 - d))) out to out to d
  rows_first out to h = say_from d p (λ i. row (va + i) vb (i + 1 - d)) out to (rw (← rows_late) h)

  pub rows_done : {out₀ out : List ℤ} {to₀ to i : ℕ} → EmittingFrom d p (λ i. clauses_words (row (va + i) vb (i + 1 - d))) out₀ to₀ out to i → p ≤ i → Wrote (clauses_words (rows_from va vb d p)) out₀ to₀ out to
  rows_done E h = rw rows_late (say_from_done d p (λ i. row (va + i) vb (i + 1 - d)) E h)

-- ---- a line

module _ (L : Line) where
  -- the conflicts of two blocks, where the earlier one meets the later from d ahead on
  pub conflicts_rows : (a b : ℕ) {d : ℕ} → Meets gap (at L.runs a) (at L.runs b) d → conflicts L a b ≡ rows_from (first_of L a) (first_of L b) d L.positions
  unfolding product
  conflicts_rows a b {d} M = each_same L.positions _ _ (λ i h. row_is L.positions d i (variable L a i) (first_of L b) _ M.some h (M.meets i))

  -- block by block
  pub non_overlap_later : non_overlap L ≡ each (many L) (later_pairs L)
  unfolding non_overlap pairs later_pairs
  non_overlap_later = refl
