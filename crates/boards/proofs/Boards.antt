-- The numbers of a board, among the words and in the table.
use mathlib.Core.Path.{◌≡◌, refl, sym, ap, ◌∙◌}
use mathlib.Core.Bool.{cond}
use mathlib.Core.List.{List, ◌++◌}
use Prim.Native.Nat.{ℕ, ◌+◌, ◌-◌, ◌≤◌, ◌<◌}
use native.Mathlib.Omega.{arith}
use native.Mathlib.Nat.{add-zero, zero-add}
use lib.Dec.{eqb}
use lib.ListN.{length, take, drop, get_or, length-append, length-drop}
use lib.Seq.{drop_at, drop-drop, get_or-append-add}
use borrow.Author.Tests.{ne_eqb}
use Rattle.lists.proofs.Writing.{tail_is}
use Rattle.refusals.specs.Verdict.{Verdict, accepted, passed, and_then}
use Rattle.refusals.specs.Told.{refusal}
use Rattle.refusals.specs.declared.Refusal.{Refusal}
use Rattle.refusals.specs.Walk.{walked}
use Rattle.refusals.proofs.Answering.{handed_up, refused_first, accepted_first, refused_so}
use Rattle.puzzles.specs.Puzzle.{Puzzle, width, height, lines, lines_words, cells_words, puzzle_words, rows_at, cells_at}
use Rattle.puzzles.specs.Walk.{read_puzzle}
use Rattle.puzzles.specs.Checks.{colors, column_checks, solved_checks, spaces, meaning_checks, puzzle, puzzle_checks, Sectioned}
use Rattle.tables.specs.declared.table.Parts.{Parts}
use Rattle.tables.specs.Table.{begin_at, Found}
use Rattle.puzzles.proofs.Accepting.{Walked, walked_sections, size_some, sizes}
use Rattle.tables.proofs.Beginning.{begin_next, begin_rows, begin_cells}

module _ (z : Puzzle) where
  first_word : get_or (puzzle_words z) 0 0 ≡ width z
  unfolding puzzle_words lines_words
  first_word = refl

  rows_word : get_or (puzzle_words z) (rows_at z) 0 ≡ height z
  unfolding puzzle_words lines_words rows_at
  rows_word =
      ap (λ (k : ℕ). get_or (puzzle_words z) k 0) (sym (add-zero (rows_at z)))
      ∙ get_or-append-add (lines_words z.columns) (lines_words z.rows ++ cells_words z.masks) 0 0

  masks_words : drop (cells_at z) (puzzle_words z) ≡ cells_words z.masks
  unfolding puzzle_words rows_at cells_at
  masks_words =
      sym (drop-drop (length (lines_words z.rows)) (length (lines_words z.columns)) (puzzle_words z))
      ∙ ap (drop (length (lines_words z.rows))) (drop_at (lines_words z.columns) (lines_words z.rows ++ cells_words z.masks) (length (lines_words z.columns)) refl)
      ∙ drop_at (lines_words z.rows) (cells_words z.masks) (length (lines_words z.rows)) refl

module _ (ws : List ℕ) (S : Sectioned ws) where
  W : Walked 0 ws
  W = walked_sections 0 ws S

  pub width_word : get_or ws 0 0 ≡ width (puzzle ws)
  width_word = ap (λ (l : List ℕ). get_or l 0 0) W.words_are ∙ first_word (puzzle ws)

  pub height_word : {rows : ℕ} → rows ≡ rows_at (puzzle ws) → get_or ws rows 0 ≡ height (puzzle ws)
  height_word e = rw e (ap (λ (l : List ℕ). get_or l (rows_at (puzzle ws)) 0) W.words_are ∙ rows_word (puzzle ws))

  pub masks_within : {cells : ℕ} → cells ≡ cells_at (puzzle ws) → cells < length ws
  unfolding cells_words
  masks_within e = omega (arith, length-drop (cells_at (puzzle ws)) ws, ap length (ap (drop (cells_at (puzzle ws))) W.words_are ∙ masks_words (puzzle ws)))

  -- `&words[cells + 1..]`
  pub masks_part : {cells : ℕ} → cells ≡ cells_at (puzzle ws) → take (length ws - (cells + 1)) (drop (cells + 1) ws) ≡ (puzzle ws).masks
  unfolding cells_words
  masks_part {cells} e =
      tail_is ws (cells + 1) ∙ sym (drop-drop 1 cells ws) ∙ rw e (ap (drop 1) (ap (drop (cells_at (puzzle ws))) W.words_are ∙ masks_words (puzzle ws)))

  pub height_some : 0 < height (puzzle ws)
  height_some = size_some (height (puzzle ws)) W.fine.rows.0

  pub width_some : 0 < width (puzzle ws)
  width_some = size_some (width (puzzle ws)) W.fine.columns.0

  pub rows_within : rows_at (puzzle ws) < length ws
  unfolding rows_at puzzle_words lines_words
  rows_within =
      let z = puzzle ws in
      omega (arith, ap length W.words_are, length-append (lines_words z.columns) (lines_words z.rows ++ cells_words z.masks))

  -- the rows' count stands before the first row, and the cells begin behind the last line's clue
  module _ {table : List ℕ} {p : Parts} where
    pub rows_found : {w : ℕ} → w ≡ width (puzzle ws) → Found ws table w p → p.begin ≡ rows_at (puzzle ws) + 2
    rows_found e F = omega (arith, F.begin_is, ap (begin_at (puzzle ws)) e, begin_rows (puzzle ws))

    pub cells_found : (l : ℕ) → l + 1 ≡ lines (puzzle ws) → Found ws table l p → p.end ≡ cells_at (puzzle ws)
    cells_found l le F =
        let z = puzzle ws in
        let n = begin_next z l (omega arith) in
        let no : l + 1 ≡ width z → ⊥ = λ u. omega (arith, height_some) in
        let c : ◌≡◌ {A = ℕ} (cond (eqb (l + 1) (width z)) 1 0) 0 = rw (ne_eqb (l + 1) (width z) no) in
        omega (arith, F.begin_is, F.end_is, n, c, ap (begin_at z) le, begin_cells z)

-- the width and the height, as they are read
pub record Sized (ws : List ℕ) (w rows h : ℕ) : Type 0 where
  pub width_is : w ≡ width (puzzle ws)
  pub width_few : (1 ≤ w) × (w ≤ 64)
  pub rows_is : rows ≡ rows_at (puzzle ws)
  pub height_is : h ≡ height (puzzle ws)
  pub height_few : (1 ≤ h) × (h ≤ 64)

pub sized : (ws : List ℕ) (S : Sectioned ws) {table : List ℕ} {p : Parts} {w h : ℕ} → w ≡ get_or ws 0 0 → Found ws table w p → h ≡ get_or ws (p.begin - 2) 0 → Sized ws w (p.begin - 2) h
sized ws S we F he =
    let wi = we ∙ width_word ws S in
    let rows_are = rows_found ws S wi F in
    let hi = he ∙ height_word ws S (omega (arith, rows_are)) in
    record {
      width_is = wi;
      width_few = (omega (arith, wi, width_some ws S), omega (arith, wi, sizes ws S));
      rows_is = omega (arith, rows_are);
      height_is = hi;
      height_few = (omega (arith, hi, height_some ws S), omega (arith, hi, sizes ws S));
    }

-- ---- the checks, one after another

-- what they tell of a puzzle, and of its words: a refusal, or the colour set
abbrev Meaning : Puzzle → Verdict ℕ
Meaning z = and_then (meaning_checks z) (accepted (colors z))

abbrev Whole : List ℕ → Verdict ℕ
Whole ws = and_then (puzzle_checks ws) (accepted (colors (puzzle ws)))

module _ (z : Puzzle) where
  pub spaces_off : (why : Refusal) → refusal why ≡ and_then (spaces z) (accepted (cells_at z)) → {X : Type 0} → (refusal {A = ℕ} why ≡ Meaning z) × (passed ≡ meaning_checks z → X)
  unfolding meaning_checks
  spaces_off why t = refused_so why _ _ (handed_up why (handed_up why (refused_first _ why (spaces z) t) _) _)

  pub spaces_pass : {n : ℕ} → accepted n ≡ and_then (spaces z) (accepted (cells_at z)) → (passed ≡ spaces z) × (n ≡ cells_at z)
  spaces_pass t = accepted_first _ (spaces z) t

module _ (z : Puzzle) (s : passed ≡ spaces z) {K : ℕ} (ke : K ≡ colors z) where
  meaning : meaning_checks z ≡ and_then (column_checks K z.columns) (solved_checks K z.masks)
  unfolding meaning_checks
  meaning = rw (← s, ke)

  pub columns_off : (why : Refusal) → refusal why ≡ column_checks K z.columns → {X : Type 0} → (refusal {A = ℕ} why ≡ Meaning z) × (passed ≡ meaning_checks z → X)
  columns_off why e = refused_so why _ _ (handed_up why (handed_up why e _ ∙ sym meaning) _)

  module _ (c : passed ≡ column_checks K z.columns) where
    pub cells_off : (why : Refusal) → refusal why ≡ solved_checks K z.masks → {X : Type 0} → (refusal {A = ℕ} why ≡ Meaning z) × (passed ≡ meaning_checks z → X)
    cells_off why e = refused_so why _ _ (handed_up why (e ∙ sym (meaning ∙ rw (← c))) _)

    pub meaning_done : passed ≡ solved_checks K z.masks → accepted K ≡ Meaning z
    meaning_done e = rw (meaning, ← c, ← e, ke)

module _ (ws : List ℕ) where
  pub sections_off : (why : Refusal) → refusal why ≡ and_then (walked 11 (read_puzzle 0 ws)) (accepted (0 + rows_at (puzzle ws))) → {X : Type 0} → (refusal {A = ℕ} why ≡ Whole ws) × (passed ≡ puzzle_checks ws → X)
  sections_off why t = refused_so why _ _ (handed_up why (handed_up why (refused_first _ why (walked 11 (read_puzzle 0 ws)) t) _) _)

  pub sections_read : {n : ℕ} → accepted n ≡ and_then (walked 11 (read_puzzle 0 ws)) (accepted (0 + rows_at (puzzle ws))) → Sectioned ws × (n ≡ rows_at (puzzle ws))
  sections_read t = let f = accepted_first _ (walked 11 (read_puzzle 0 ws)) t in (f.0, f.1 ∙ zero-add (rows_at (puzzle ws)))

-- and once they are read
pub sections_on : (ws : List ℕ) → Sectioned ws → {v : Verdict ℕ} {X : Type 0} → (v ≡ Meaning (puzzle ws)) × (passed ≡ meaning_checks (puzzle ws) → X) → (v ≡ Whole ws) × (passed ≡ puzzle_checks ws → X)
sections_on ws S m = (m.0 ∙ rw (← S), λ p. m.1 (p ∙ rw (← S)))
