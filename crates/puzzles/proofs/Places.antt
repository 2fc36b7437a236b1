-- The sections of puzzle words, one after another: where each begins, and what their check answers.
use mathlib.Core.Path.{◌≡◌, refl, sym, ap, ◌∙◌}
use mathlib.Core.List.{List, ◌++◌}
use Prim.Native.Nat.{ℕ, ◌+◌, ◌-◌, ◌*◌, ◌≤◌, ◌<◌}
use native.Mathlib.Omega.{arith}
use native.Mathlib.Nat.{mul-le-mul_right}
use lib.ListN.{length, take, drop, get_or, length-append, length-drop}
use lib.Seq.{drop_at, drop-drop, get_or-drop}
use borrow.Author.Tests.{lt-ltb, le-ltb}
use Rattle.lists.proofs.Writing.{tail_is}
use Rattle.refusals.specs.Verdict.{Verdict, accepted, refused, and_then}
use Rattle.refusals.specs.Told.{refusal, told}
use Rattle.refusals.specs.declared.Refusal.{Refusal}
use Rattle.refusals.specs.Walk.{Walk, got, outcome, walked, read_or}
use Rattle.refusals.proofs.Answering.{refusal_is}
use Rattle.refusals.proofs.Walking.{outcome_got, stopped}
use Rattle.refusals.proofs.Readers.{Reader}
use Rattle.lines.proofs.Checks.{size_within}
use Rattle.std.specs.Prelude.{Result, Ok, Err, IfOk}
use Rattle.lines.specs.Clue.{Block}
use Rattle.puzzles.specs.Section.{IsLines}
use Rattle.puzzles.specs.Puzzle.{lines_words, cells_words, rows_at}
use Rattle.puzzles.specs.Walk.{read_lines, read_cells, read_puzzle}
use Rattle.puzzles.specs.Checks.{puzzle_of}
use Rattle.puzzles.proofs.Readers.{FineLines, FineCells, lines_reader, cells_reader}

-- a section of the words that begin at place `at`, from place i up to place j
pub record Section {A : Type 0} (f : ℕ → List ℕ → Walk ℕ A) (W : A → List ℕ) (Fine : A → Type 0) (at : ℕ) (part : List ℕ) (i j : ℕ) : Type 0 where
  pub value : A
  pub got_is : f i (drop (i - at) part) ≡ got value j (drop (j - at) part)
  pub words_are : drop (i - at) part ≡ W value ++ drop (j - at) part
  pub place_is : j ≡ i + length (W value)
  pub low : at ≤ i
  pub within : j ≤ at + length part
  pub fine : Fine value

pub section_read : {A : Type 0} {f : ℕ → List ℕ → Walk ℕ A} {W : A → List ℕ} {Fine : A → Type 0} (R : Reader f W Fine) (at : ℕ) (part : List ℕ) (i : ℕ) → at ≤ i → i ≤ at + length part
    → {j : ℕ} → accepted j ≡ outcome (f i (drop (i - at) part)) → Section f W Fine at part i j
section_read {A} {f} {W} R at part i b h {j} e =
    let g = outcome_got (f i (drop (i - at) part)) e in
    let o = R.only i (drop (i - at) part) g.value j g.left g.got_is in
    let n : i - at + length (W g.value) ≡ j - at = omega (arith, o.place_is) in
    let l : g.left ≡ drop (j - at) part = sym (drop_at (W g.value) g.left (length (W g.value)) refl) ∙ ap (drop (length (W g.value))) (sym o.words_are) ∙ drop-drop (length (W g.value)) (i - at) part ∙ ap (λ (k : ℕ). drop k part) n in
    record {
      value = g.value;
      got_is = g.got_is ∙ ap (got g.value j) l;
      words_are = o.words_are ∙ ap (λ (t : List ℕ). W g.value ++ t) l;
      place_is = o.place_is;
      low = b;
      within = omega (arith, o.place_is, ap length o.words_are, length-append (W g.value) g.left, length-drop (i - at) part);
      fine = o.fine;
    }

abbrev pub Lines : ℕ → List ℕ → ℕ → ℕ → Type 0
Lines = Section read_lines lines_words FineLines

abbrev pub Cells : ℕ → ℕ → List ℕ → ℕ → ℕ → Type 0
Cells area = Section (read_cells area) cells_words (FineCells area)

-- the first begins where the words do
at_first : (at : ℕ) (part : List ℕ) → drop (at - at) part ≡ part
at_first at part = let e : at - at ≡ 0 = omega arith in rw e

pub columns_read : (at : ℕ) (part : List ℕ) {j : ℕ} → accepted j ≡ outcome (read_lines at part) → Lines at part at j
columns_read at part e = section_read lines_reader at part at (omega arith) (omega arith) (rw (at_first at part) e)

lines_some : (ls : List (List Block)) → 0 < length (lines_words ls)
unfolding lines_words
lines_some ls = omega arith

-- the count stands at its front
pub count_is : (at : ℕ) (part : List ℕ) (i j : ℕ) (S : Lines at part i j) → (i - at < length part) × (get_or part (i - at) 0 ≡ length S.value) × (get_or part (i - at) 0 ≤ 64)
unfolding lines_words
count_is at part i j S =
    let e : get_or part (i - at) 0 ≡ length S.value = ap (λ (k : ℕ). get_or part k 0) (omega arith) ∙ sym (get_or-drop (i - at) part 0 0) ∙ ap (λ (l : List ℕ). get_or l 0 0) S.words_are in
    (omega (arith, ap length S.words_are, length-drop (i - at) part), e, omega (arith, size_within (length S.value) S.fine.0))

pub first_count : (at : ℕ) (part : List ℕ) (j : ℕ) (S : Lines at part at j) → (0 < length part) × (get_or part 0 0 ≡ length S.value) × (get_or part 0 0 ≤ 64)
first_count at part j S =
    let e : at - at ≡ 0 = omega arith in
    rw e at (count_is at part at j S)

-- what the readers of sections tell of the places where they end
pub lines_within : (at : ℕ) (part : List ℕ) (r : Result ℕ Refusal) → told r ≡ outcome (read_lines at part) → IfOk r (IsLines at part)
lines_within at part (Ok end) e =
    let S = columns_read at part e in
    let c = first_count at part end S in
    record { low = omega (arith, S.place_is, lines_some S.value); within = S.within; count_most = c.2 }
lines_within at part (Err why) e = tt

pub cells_within : (area at : ℕ) (part : List ℕ) (r : Result ℕ Refusal) → told r ≡ outcome (read_cells area at part) → IfOk r (λ end. (at ≤ end) × (end ≤ at + length part))
cells_within area at part (Ok end) e =
    let S = section_read (cells_reader area) at part at (omega arith) (omega arith) (rw (at_first at part) e) in
    (omega (arith, S.place_is), S.within)
cells_within area at part (Err why) e = tt

-- ---- the check, by the way that it goes

module _ (at : ℕ) (part : List ℕ) where
  abbrev Checked : Verdict ℕ → Type 0
  Checked v = v ≡ and_then (walked 11 (read_puzzle at part)) (accepted (at + rows_at (puzzle_of (read_puzzle at part))))

  pub columns_refused : (why : Refusal) → refusal why ≡ outcome (read_lines at part) → Checked (refusal why)
  unfolding read_puzzle walked
  columns_refused why e = refusal_is why ∙ rw (stopped (read_lines at part) (sym e ∙ refusal_is why))

  module _ {rows : ℕ} (C : Lines at part at rows) where
    columns_got : read_lines at part ≡ got C.value rows (drop (rows - at) part)
    columns_got = rw (at_first at part) at C.got_is

    pub rows_refused : (why : Refusal) → refusal why ≡ outcome (read_lines rows (take (length part - (rows - at)) (drop (rows - at) part))) → Checked (refusal why)
    unfolding read_puzzle walked
    rows_refused why e = refusal_is why ∙ rw (columns_got, stopped (read_lines rows (drop (rows - at) part)) (sym (rw (tail_is part (rows - at)) at e) ∙ refusal_is why))

    module _ {cells : ℕ} (R : Lines at part rows cells) {w h : ℕ} (we : w ≡ get_or part 0 0) (he : h ≡ get_or part (rows - at) 0) where
      area_is : w * h ≡ length C.value * length R.value
      area_is = rw (we, he, (first_count at part rows C).1, (count_is at part rows cells R).1)

      pub cells_refused : (why : Refusal) → refusal why ≡ outcome (read_cells (w * h) cells (take (length part - (cells - at)) (drop (cells - at) part))) → Checked (refusal why)
      unfolding read_puzzle walked
      cells_refused why e = refusal_is why ∙ rw (columns_got, R.got_is, ← area_is, stopped (read_cells (w * h) cells (drop (cells - at) part)) (sym (rw (tail_is part (cells - at)) at e) ∙ refusal_is why))

      module _ {end : ℕ} (M : Cells (w * h) at part cells end) where
        pub left_over : end - at < length part → Checked (refused 11 end)
        unfolding read_puzzle walked
        left_over l = rw (columns_got, R.got_is, ← area_is, M.got_is, lt-ltb 0 (length (drop (end - at) part)) (omega (arith, length-drop (end - at) part)))

        pub sections_are : length part ≤ end - at → Checked (accepted rows)
        unfolding read_puzzle walked read_or rows_at
        sections_are l = rw (columns_got, R.got_is, ← area_is, M.got_is, le-ltb 0 (length (drop (end - at) part)) (omega (arith, length-drop (end - at) part)), ← C.place_is)

pub area_most : (w h : ℕ) → w ≤ 64 → h ≤ 64 → w * h ≤ 4096
area_most w h p q = omega (arith, mul-le-mul_right h p)
