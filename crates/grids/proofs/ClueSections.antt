-- The words of a section of clues, line by line.
use mathlib.Core.Path.{◌≡◌, refl, sym, ap, ap₂, ◌∙◌}
use mathlib.Core.List.{List, [], ◌∷◌, ◌++◌, append-nil, flat_map}
use Prim.Native.Nat.{ℕ, zero, suc, ◌+◌, ◌-◌, ◌*◌, ◌/◌, ◌≤◌, ◌<◌}
use native.Mathlib.Omega.{arith}
use native.Mathlib.Numerals.{add-one}
use native.Mathlib.Nat.{mul_comm, zero-mul, suc-mul, mul-le-mul_right}
use native.Mathlib.Decide.{dec_lt}
use Rattle.std.proofs.Math.Seq.{take-append_seam, drop-append_seam}
use Rattle.std.proofs.lemmas.List.{length-drop, drop-drop}
use lib.ListN.{length, take, drop, set, length-append, length-set}
use Rattle.lists.specs.Each.{each, tab}
use Rattle.lists.specs.Wrote.{Wrote}
use Rattle.lists.proofs.Eaches.{length_tab, flat_append}
use Rattle.lists.proofs.Parts.{part_within, part_tab, each_most}
use Rattle.lists.proofs.Writing.{wrote_after, wrote_ahead}
use Rattle.lists.proofs.Emitting.{Emitting, emit_first, emit_done}
use Rattle.lines.specs.Clue.{Block}
use Rattle.lines.specs.Line.{runs}
use Rattle.runs.specs.Strided.{strided}
use Rattle.lines.specs.Calls.{line_words}
use Rattle.lines.proofs.Coloring.{line_words_lem, line_words_length, runs_few}
use Rattle.puzzles.specs.Puzzle.{clue_words, clues_words, lines_words}
use Rattle.grids.specs.Grid.{row, row_clues}
use Rattle.grids.specs.Sized.{Sized, Lined, laid_clues}
use Rattle.grids.proofs.Cells.{row_length}

-- ---- one line

pub clue_is : (line : List ℕ) → clue_words (runs line) ≡ length (runs line) ∷ line_words line
unfolding clue_words
clue_is line = rw (line_words_lem line)

pub clue_length : (line : List ℕ) → length (clue_words (runs line)) ≡ 1 + length (line_words line)
clue_length line = omega (arith, ap length (clue_is line))

pub clue_most : (line : List ℕ) → length line ≤ 64 → length (clue_words (runs line)) ≤ 129
clue_most line h = omega (arith, clue_length line, line_words_length line, runs_few line)

module _ (line out : List ℕ) (at : ℕ) (r : at + length (clue_words (runs line)) ≤ length out) where
  pub clue_room : at + 1 + length (line_words line) ≤ length out
  clue_room = omega (arith, clue_length line)

  module _ {out₁ : List ℕ} {to : ℕ} (w : Wrote (line_words line) out (at + 1) out₁ to) where
    pub clue_count : (to - at) / 2 ≡ length (runs line)
    clue_count = omega (arith, w.next_is, line_words_length line)

    -- the runs are written, and then their number before them
    pub clue_wrote : Wrote (clue_words (runs line)) out at (set out₁ at ((to - at) / 2)) to
    clue_wrote = rw (clue_is line, clue_count) (wrote_ahead out at (length (runs line)) (omega (arith, clue_length line)) w)

-- ---- a section

clues_tab : (n : ℕ) (f : ℕ → List Block) → clues_words (tab n f) ≡ each n (λ i. clue_words (f i))
unfolding tab each flat_map
clues_tab zero f = refl
clues_tab (suc n) f = rw (flat_append clue_words (tab n f) (f n ∷ []), clues_tab n f, append-nil)

module _ (n : ℕ) (f : ℕ → List Block) where
  section_is : lines_words (tab n f) ≡ n ∷ each n (λ i. clue_words (f i))
  unfolding lines_words
  section_is = ap₂ ◌∷◌ (length_tab n f) (clues_tab n f)

  pub section_length : length (lines_words (tab n f)) ≡ 1 + length (each n (λ i. clue_words (f i)))
  section_length = omega (arith, ap length section_is)

-- ---- lines that lie one after another, as they are counted

-- the words of line i
abbrev pub line_clue : ℕ → List ℕ → ℕ → List ℕ
line_clue len cells i = clue_words (runs (row len cells i))

module _ (n len : ℕ) (cells : List ℕ) (L : Lined n len cells) where
  row_most : (i : ℕ) → length (line_clue len cells i) ≤ 129
  row_most i = clue_most (row len cells i) (omega (arith, row_length len n cells i, L.short))

  pub rows_most : length (lines_words (row_clues len n cells)) ≤ 8257
  unfolding row_clues
  rows_most = omega (arith, section_length n (λ i. runs (row len cells i)), each_most n 129 (line_clue len cells) row_most, L.few)

  module _ (i : ℕ) (h : i < n) where
    line_end : i * len + len ≤ length cells
    line_end = omega (arith, part_within n len i h, L.room)

pub record Summing (n len : ℕ) (cells : List ℕ) (count i : ℕ) : Type 0 where
  pub within : i ≤ n
  pub few : count ≤ 1 + i * 129
  pub counted : count ≡ 1 + length (each i (line_clue len cells))

pub summing_first : (n len : ℕ) (cells : List ℕ) → Summing n len cells 1 0
unfolding each
summing_first n len cells = record { within = omega arith; few = omega arith; counted = refl }

module _ {n len : ℕ} {cells : List ℕ} {count i : ℕ} (S : Summing n len cells count i) where
  pub summing_next : Lined n len cells → i < n → {more : ℕ} → more ≡ length (line_words (row len cells i)) → Summing n len cells (count + (1 + more)) (i + 1)
  unfolding each
  summing_next L h e = record {
    within = omega arith;
    few = omega (arith, clue_length (row len cells i), row_most n len cells L i);
    counted = rw (add-one i) (omega (arith, S.counted, length-append (each i (line_clue len cells)) (line_clue len cells i), clue_length (row len cells i)));
  }

  pub summing_done : n ≤ i → count ≡ length (lines_words (row_clues len n cells))
  unfolding row_clues
  summing_done h =
      let e : i ≡ n = omega (arith, S.within) in
      omega (arith, S.counted, section_length n (λ i. runs (row len cells i)), ap (λ (k : ℕ). length (each k (line_clue len cells))) e)

-- the rows that are still to be counted
pub record Counting (n len : ℕ) (cells : List ℕ) (count i : ℕ) (rest : List ℕ) (size : ℕ) : Type 0 where
  pub summing : Summing n len cells count i
  pub left : rest ≡ drop (i * len) cells
  pub size_is : size ≡ len

pub rows_lined : {w h : ℕ} {cells : List ℕ} → Sized w h cells → Lined h w cells
rows_lined {w} {h} S = record { few = S.height_most; short = S.width_most; room = omega (arith, S.cells, mul_comm w h) }

pub counting_first : {n len : ℕ} {cells rest : List ℕ} {size : ℕ} → rest ≡ cells → size ≡ len → Counting n len cells 1 0 rest size
counting_first {n} {len} {cells} e s = record { summing = summing_first n len cells; left = e ∙ ap (λ k. drop k cells) (sym (zero-mul len)); size_is = s }

module _ {n len : ℕ} {cells rest : List ℕ} {count i size : ℕ} (S : Sized len n cells) (C : Counting n len cells count i rest size) where
  left_long : length rest ≡ n * len - i * len
  left_long = omega (arith, ap length C.left, length-drop (i * len) cells, S.cells, mul_comm len n)

  module _ (x rest' : List ℕ) (size' : ℕ) (e : rest ≡ x ++ rest') (l : length x ≡ size) (s : size' ≡ size) where
    long : length x ≡ len
    long = l ∙ C.size_is

    pub row_short : length x ≤ 64
    row_short = omega (arith, long, S.width_most)

    more_rows : i < n
    more_rows = elim (dec_lt i n) [
      | yes h ↦ h
      | no h ↦ absurd (omega (arith, mul-le-mul_right {m = n} {n = i} len (omega arith), left_long, ap length e, length-append x rest', long, S.width_some))
    ]

    row_is : x ≡ row len cells i
    unfolding row
    row_is = sym (take-append_seam x rest') ∙ ap (λ k. take k (x ++ rest')) long ∙ ap (take len) (sym e ∙ C.left) ∙ part_tab 0 cells (i * len) len (line_end n len cells (rows_lined S) i more_rows)

    left_next : rest' ≡ drop (i * len + len) cells
    left_next = sym (drop-append_seam x rest') ∙ ap (λ k. drop k (x ++ rest')) long ∙ ap (drop len) (sym e ∙ C.left) ∙ drop-drop len (i * len) cells

    pub counting_next : {more : ℕ} → more ≡ length (line_words x) → Counting n len cells (count + (1 + more)) (i + 1) rest' size'
    counting_next m = record {
      summing = summing_next C.summing (rows_lined S) more_rows (m ∙ ap (λ r. length (line_words r)) row_is);
      left = left_next ∙ ap (λ k. drop k cells) (omega (arith, suc-mul i len, ap (λ k. k * len) (add-one i)));
      size_is = s ∙ C.size_is;
    }

  pub counting_done : length rest < size → count ≡ length (lines_words (row_clues len n cells))
  counting_done h = elim (dec_lt i n) [
    | yes k ↦ absurd (omega (arith, part_within n len i k, left_long, C.size_is))
    | no k ↦ summing_done C.summing (omega arith)
  ]

-- ---- lines that lie in any way, as they are written

-- the words of line i
abbrev pub laid_clue : ℕ → ℕ → ℕ → List ℕ → ℕ → List ℕ
laid_clue skip step len cells i = clue_words (runs (strided (i * skip) step len cells))

module _ (n skip step len : ℕ) (cells out : List ℕ) (from : ℕ) (r : from + length (lines_words (laid_clues n skip step len cells)) ≤ length out) where
  whole : lines_words (laid_clues n skip step len cells) ≡ n ∷ each n (laid_clue skip step len cells)
  unfolding laid_clues
  whole = section_is n (λ i. runs (strided (i * skip) step len cells))

  pub section_space : from < length out
  section_space = omega (arith, ap length whole)

  -- after the count
  pub section_first : Emitting n (laid_clue skip step len cells) (set out from n) (from + 1) (set out from n) (from + 1) 0
  section_first = emit_first n _ _ _ (omega (arith, ap length whole, length-set out from n))

  pub section_done : {out' : List ℕ} {to i : ℕ} → Emitting n (laid_clue skip step len cells) (set out from n) (from + 1) out' to i → n ≤ i
      → Wrote (lines_words (laid_clues n skip step len cells)) out from out' to
  section_done E l = rw whole (wrote_after out from n section_space (emit_done E l))
