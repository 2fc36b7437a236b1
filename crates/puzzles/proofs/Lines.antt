-- A puzzle's lines: columns from 0, rows from width.
use mathlib.Core.Path.{◌≡◌}
use mathlib.Core.Bool.{false}
use mathlib.Core.List.{List, []}
use Prim.Native.Nat.{ℕ, ◌+◌, ◌-◌, ◌≤◌, ◌<◌}
use native.Mathlib.Omega.{arith}
use native.Mathlib.Nat.{zero-add}
use native.Mathlib.Decide.{dec_lt}
use lib.Dec.{ltb}
use lib.ListN.{get_or, get_or-append}
use lib.Seq.{get_or-append-add}
use borrow.Author.Tests.{lt-ltb, le-ltb}
use Rattle.refusals.specs.Verdict.{passed, refused}
use Rattle.refusals.proofs.Offending.{off_none, off_at}
use Rattle.lines.specs.Clue.{Block, gap, min_space}
use Rattle.puzzles.specs.Puzzle.{Puzzle, width, height, lines, clue_at, length_at}
use Rattle.puzzles.specs.Checks.{space_checks, spaces}

module _ (z : Puzzle) (l : ℕ) where
  pub clue_column : l < width z → clue_at z l ≡ get_or z.columns l []
  unfolding clue_at
  clue_column h = get_or-append z.columns z.rows [] l h

  pub length_column : l < width z → length_at z l ≡ height z
  unfolding length_at
  length_column h = rw (lt-ltb _ _ h)

  pub clue_row : clue_at z (width z + l) ≡ get_or z.rows l []
  unfolding clue_at
  clue_row = get_or-append-add z.columns z.rows l []

  pub length_row : length_at z (width z + l) ≡ width z
  unfolding length_at
  length_row =
      let h : width z ≤ width z + l = omega arith in
      rw (le-ltb _ _ h)

-- what holds of each column and of each row, by its length and clue, holds of each line
pub each_line : (z : Puzzle) (P : ℕ → List Block → Type 0) → ((l : ℕ) → l < width z → P (height z) (get_or z.columns l []))
    → ((l : ℕ) → l < height z → P (width z) (get_or z.rows l [])) → (l : ℕ) → l < lines z → P (length_at z l) (clue_at z l)
each_line z P C R l h = elim (dec_lt l (width z)) [
  | yes k ↦ rw (clue_column z l k, length_column z l k) (C l k)
  | no k ↦
      let i = l - width z in
      let e : l ≡ width z + i = omega arith in
      rw (e, clue_row z i, length_row z i) (R i (omega arith))
]

-- ---- 6, by line

module _ (z : Puzzle) where
  abbrev pub Fits : ℕ → Type 0
  Fits l = min_space gap (clue_at z l) ≤ length_at z l

  fits_column : (l : ℕ) → l < width z → Fits l → ltb (height z) (min_space gap (get_or z.columns l [])) ≡ false
  fits_column l h f = le-ltb _ _ (rw (clue_column z l h, length_column z l h) at f)

  fits_row : (l : ℕ) → Fits (width z + l) → ltb (width z) (min_space gap (get_or z.rows l [])) ≡ false
  fits_row l f = le-ltb _ _ (rw (clue_row z l, length_row z l) at f)

  columns_fit : ((l : ℕ) → l < width z → Fits l) → space_checks (height z) 0 z.columns ≡ passed
  columns_fit f = off_none [] (λ bs. ltb (height z) (min_space gap bs)) 6 0 z.columns (λ l h. fits_column l h (f l h))

  pub spaces_fit : ((l : ℕ) → l < lines z → Fits l) → spaces z ≡ passed
  unfolding spaces
  spaces_fit f = rw (
    columns_fit (λ l h. f l (omega arith)),
    off_none [] (λ bs. ltb (width z) (min_space gap bs)) 6 (width z) z.rows (λ l h. fits_row l (f (width z + l) (omega arith))),
  )

  pub spaces_short : (l : ℕ) → l < lines z → ((j : ℕ) → j < l → Fits j) → length_at z l < min_space gap (clue_at z l) → refused 6 l ≡ spaces z
  unfolding spaces
  spaces_short l h f s = elim (dec_lt l (width z)) [
    | yes k ↦
        let e = off_at [] (λ bs. ltb (height z) (min_space gap bs)) 6 0 z.columns l k (λ j g. fits_column j (omega arith) (f j g)) (lt-ltb _ _ (rw (clue_column z l k, length_column z l k) at s)) in
        rw (e, zero-add)
    | no k ↦
        let i = l - width z in
        let q : l ≡ width z + i = omega arith in
        let e = off_at [] (λ bs. ltb (width z) (min_space gap bs)) 6 (width z) z.rows i (omega arith) (λ j g. fits_row j (f (width z + j) (omega arith))) (lt-ltb _ _ (rw (q, clue_row z i, length_row z i) at s)) in
        rw (columns_fit (λ j g. f j (omega arith)), e, ← q)
  ]
