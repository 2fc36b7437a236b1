-- Where the clues of the lines begin among the words, and what stands there.
use mathlib.Core.Path.{◌≡◌, refl, sym, ap, ◌∙◌}
use mathlib.Core.Bool.{cond}
use mathlib.Core.List.{List, [], ◌∷◌, ◌++◌, append_assoc, flat_map}
use Prim.Native.Nat.{ℕ, zero, suc, ◌+◌, ◌-◌, ◌*◌, ◌≤◌, ◌<◌}
use native.Mathlib.Omega.{arith}
use native.Mathlib.Nat.{add-zero, add_assoc}
use native.Mathlib.Decide.{ℕ_discrete, dec_lt}
use lib.Dec.{eqb}
use lib.ListN.{length, take, drop, get_or, length-append, length-drop}
use lib.Seq.{take_at, drop_at, drop-drop, take-append-le, take-append-add, take-suc, get_or-drop, take_all}
use borrow.Author.Tests.{lt-ltb, le-ltb, eq-eqb, ne_eqb}
use Rattle.lists.proofs.Eaches.{flat_append}
use Rattle.lines.specs.Clue.{Block, words}
use Rattle.lines.proofs.ClueWords.{words_length}
use Rattle.puzzles.specs.Puzzle.{Puzzle, width, height, lines, clue_words, clues_words, lines_words, cells_words, puzzle_words, rows_at, cells_at, clue_at}
use Rattle.tables.specs.Table.{begin_at}
use Rattle.puzzles.proofs.Lines.{clue_column, clue_row}

-- ---- clues one after another

clue_size : (bs : List Block) → length (clue_words bs) ≡ 1 + 2 * length bs
unfolding clue_words
clue_size bs = omega (arith, words_length bs)

-- behind the words of l clues stand those of the next
clues_drop : (ls : List (List Block)) (l : ℕ) (more : List ℕ) → l < length ls
    → drop (length (clues_words (take l ls))) (clues_words ls ++ more) ≡ clue_words (get_or ls l []) ++ (clues_words (drop (suc l) ls) ++ more)
unfolding flat_map
clues_drop [] l more h = absurd (omega arith)
clues_drop (bs ∷ ls) zero more h = append_assoc (clue_words bs) (clues_words ls) more
clues_drop (bs ∷ ls) (suc l) more h =
    rw (length-append, ← drop-drop (length (clues_words (take l ls))) (length (clue_words bs)) _, append_assoc, drop_at (clue_words bs) (clues_words ls ++ more) (length (clue_words bs)) refl)
    (clues_drop ls l more (omega arith))

-- ---- the clue of a line

-- a clue stands in the words from `from` on
pub record Here (ws : List ℕ) (from : ℕ) (bs : List Block) : Type 0 where
  pub count_is : get_or ws from 0 ≡ length bs
  pub within : from + 1 + 2 * length bs ≤ length ws
  pub part_is : take (2 * length bs) (drop (from + 1) ws) ≡ words bs

here : (ws : List ℕ) (from : ℕ) (bs : List Block) (more : List ℕ) → drop from ws ≡ clue_words bs ++ more → Here ws from bs
unfolding clue_words
here ws from bs more e = record {
  count_is = ap (λ (k : ℕ). get_or ws k 0) (sym (add-zero from)) ∙ sym (get_or-drop from ws 0 0) ∙ ap (λ (l : List ℕ). get_or l 0 0) e;
  within = omega (arith, ap length e, length-append (words bs) more, length-drop from ws, words_length bs);
  part_is = ap (take (2 * length bs)) (sym (drop-drop 1 from ws) ∙ ap (drop 1) e) ∙ take_at (words bs) more (2 * length bs) (words_length bs);
}

module _ (z : Puzzle) where
  begin_column : (l : ℕ) → l < width z → begin_at z l ≡ 1 + length (clues_words (take l z.columns))
  unfolding begin_at
  begin_column l h = rw (lt-ltb l (width z) h, take-append-le l z.columns z.rows (omega arith))

  begin_row : (l : ℕ) → begin_at z (width z + l) ≡ 2 + length (clues_words z.columns) + length (clues_words (take l z.rows))
  unfolding begin_at
  begin_row l =
      let h : width z ≤ width z + l = omega arith in
      rw (le-ltb (width z + l) (width z) h, take-append-add z.columns z.rows l, flat_append clue_words z.columns (take l z.rows), length-append) (sym (add_assoc 2 _ _))

  column_here : (l : ℕ) → l < width z → Here (puzzle_words z) (begin_at z l) (get_or z.columns l [])
  unfolding puzzle_words lines_words
  column_here l h =
      here (puzzle_words z) (begin_at z l) (get_or z.columns l []) (clues_words (drop (suc l) z.columns) ++ (lines_words z.rows ++ cells_words z.masks))
      (rw (begin_column l h, ← drop-drop (length (clues_words (take l z.columns))) 1 (puzzle_words z)) (clues_drop z.columns l (lines_words z.rows ++ cells_words z.masks) h))

  row_here : (l : ℕ) → l < height z → Here (puzzle_words z) (begin_at z (width z + l)) (get_or z.rows l [])
  unfolding puzzle_words lines_words
  row_here l h =
      let n = length (clues_words z.columns) in
      let k = length (clues_words (take l z.rows)) in
      let e : 2 + n + k ≡ 1 + (n + (1 + k)) = omega arith in
      here (puzzle_words z) (begin_at z (width z + l)) (get_or z.rows l []) (clues_words (drop (suc l) z.rows) ++ cells_words z.masks)
      (rw (
        begin_row l,
        e,
        ← drop-drop (n + (1 + k)) 1 (puzzle_words z),
        ← drop-drop (1 + k) n (clues_words z.columns ++ (lines_words z.rows ++ cells_words z.masks)),
        drop_at (clues_words z.columns) (lines_words z.rows ++ cells_words z.masks) n refl,
        ← drop-drop k 1 (lines_words z.rows ++ cells_words z.masks),
      ) (clues_drop z.rows l (cells_words z.masks) h))

  -- each line's clue stands where it begins
  pub clue_here : (l : ℕ) → l < lines z → Here (puzzle_words z) (begin_at z l) (clue_at z l)
  clue_here l h = elim (dec_lt l (width z)) [
    | yes k ↦ rw (clue_column z l k) (column_here l k)
    | no k ↦
        let i = l - width z in
        let e : l ≡ width z + i = omega arith in
        rw (e, clue_row z i) (row_here i (omega arith))
  ]

  -- ---- and the next begins behind it

  clues_next : (l : ℕ) → l < lines z → length (clues_words (take (l + 1) (z.columns ++ z.rows))) ≡ length (clues_words (take l (z.columns ++ z.rows))) + (1 + 2 * length (clue_at z l))
  unfolding clue_at flat_map
  clues_next l h =
      let ls = z.columns ++ z.rows in
      let e : l + 1 ≡ suc l = omega arith in
      rw (e, take-suc ls l [] (omega (arith, length-append z.columns z.rows)), flat_append clue_words (take l ls) (get_or ls l [] ∷ []), length-append)
      (omega (arith, length-append (clue_words (get_or ls l [])) [], clue_size (get_or ls l [])))

  pub begin_next : (l : ℕ) → l < lines z → begin_at z (l + 1) ≡ begin_at z l + 1 + 2 * length (clue_at z l) + cond (eqb (l + 1) (width z)) 1 0
  unfolding begin_at
  begin_next l h = elim (ℕ_discrete (l + 1) (width z)) [
    | yes e ↦ rw (lt-ltb l (width z) (omega arith), le-ltb (l + 1) (width z) (omega arith), eq-eqb (l + 1) (width z) e) (omega (arith, clues_next l h))
    | no e ↦ rw (ne_eqb (l + 1) (width z) e) (elim (dec_lt l (width z)) [
      | yes k ↦ rw (lt-ltb l (width z) k, lt-ltb (l + 1) (width z) (omega arith)) (omega (arith, clues_next l h))
      | no k ↦ rw (le-ltb l (width z) (omega arith), le-ltb (l + 1) (width z) (omega arith)) (omega (arith, clues_next l h))
    ])
  ]

  -- behind the last clue begin the cells
  pub begin_cells : begin_at z (lines z) ≡ cells_at z
  unfolding cells_at rows_at lines_words
  begin_cells = begin_row (height z) ∙ rw (take_all (height z) z.rows (omega arith)) (omega arith)

  pub begin_rows : begin_at z (width z) ≡ rows_at z + 1
  unfolding rows_at lines_words flat_map
  begin_rows = ap (begin_at z) (sym (add-zero (width z))) ∙ begin_row 0 ∙ omega arith
