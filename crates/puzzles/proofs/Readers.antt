-- What each reader reads: exactly the words of something fine, and such words are read as that.
use mathlib.Core.Path.{◌≡◌, refl, ap, ◌∙◌}
use mathlib.Core.Bool.{false, not}
use mathlib.Core.List.{List, [], ◌∷◌, ◌++◌, append_assoc, flat_map}
use Prim.Native.Nat.{ℕ, ◌+◌, ◌*◌, ◌≤◌, ◌<◌}
use native.Mathlib.Omega.{arith}
use lib.Dec.{eqb, ltb}
use lib.ListN.{length, length-append}
use borrow.Author.Tests.{ne_eqb, eqb-false, le-ltb, ltb-false}
use Rattle.lists.specs.Each.{Every}
use Rattle.lists.proofs.Tests.{neither}
use Rattle.refusals.specs.Walk.{got, word}
use Rattle.refusals.proofs.Walking.{next_got}
use Rattle.refusals.proofs.Readers.{Reads, Reader, reads_as, word_reader, counted_reader}
use Rattle.lines.specs.Clue.{Block, words}
use Rattle.lines.specs.Calls.{off_size, off_color}
use Rattle.lines.proofs.ClueWords.{words_none, words_next}
use Rattle.puzzles.specs.Puzzle.{Puzzle, width, height, clue_words, clues_words, lines_words, cells_words, puzzle_words}
use Rattle.puzzles.specs.Walk.{read_block, read_clue, read_lines, read_mask, read_cells, read_puzzle}

-- ---- blocks

pub record FineBlock (b : Block) : Type 0 where
  pub sized : 0 < b.size
  pub colored : 0 < b.color
  pub color_most : b.color ≤ 31

abbrev no_block : Block
no_block = record { size = 0; color = 0 }

color_within : (c : ℕ) → off_color c ≡ false → (0 < c) × (c ≤ 31)
color_within c e =
    let n = neither (eqb c 0) (ltb 31 c) e in
    (omega (arith, eqb-false c 0 n.0), ltb-false 31 c n.1)

size_reader : Reader (word 1 (λ n. eqb n 0) 4) (λ n. n ∷ []) (λ n. eqb n 0 ≡ false)
size_reader = word_reader 1 (λ n. eqb n 0) 4

color_reader : Reader (word 1 off_color 5) (λ c. c ∷ []) (λ c. off_color c ≡ false)
color_reader = word_reader 1 off_color 5

block_only : (i : ℕ) (ws : List ℕ) (b : Block) (j : ℕ) (us : List ℕ) → read_block i ws ≡ got b j us → Reads (λ b. b.size ∷ b.color ∷ []) FineBlock i ws b j us
unfolding read_block
block_only i ws b j us e =
    let p = next_got (word 1 (λ n. eqb n 0) 4 i ws) _ e in
    let q = next_got (word 1 off_color 5 p.place p.left) _ p.then in
    let S = size_reader.only i ws p.value p.place p.left p.got_is in
    let C = color_reader.only p.place p.left q.value q.place q.left q.got_is in
    let c = color_within q.value C.fine in
    reads_as q.then
    (record {
      words_are = S.words_are ∙ ap (λ (l : List ℕ). p.value ∷ l) C.words_are;
      place_is = omega (arith, S.place_is, C.place_is);
      fine = record { sized = omega (arith, eqb-false p.value 0 S.fine); colored = c.0; color_most = c.1 };
    })

color_fine : (c : ℕ) → 0 < c → c ≤ 31 → off_color c ≡ false
color_fine c h m = rw (ne_eqb c 0 (λ e. omega arith), le-ltb 31 c m)

block_back : (i : ℕ) (b : Block) (us : List ℕ) → FineBlock b → read_block i (b.size ∷ b.color ∷ us) ≡ got b (i + 2) us
unfolding read_block
block_back i b us F =
    let n : i + 1 + 1 ≡ i + 2 = omega arith in
    rw (
      size_reader.back i b.size (b.color ∷ us) (ne_eqb b.size 0 (λ e. omega (arith, F.sized))),
      color_reader.back (i + 1) b.color us (color_fine b.color F.colored F.color_most),
      n,
    )

pub block_reader : Reader read_block (λ b. b.size ∷ b.color ∷ []) FineBlock
block_reader = record { only = block_only; back = block_back }

abbrev pub FineClue : List Block → Type 0
FineClue bs = (ltb 64 (length bs) ≡ false) × Every no_block FineBlock bs

pub clue_reader : Reader read_clue clue_words FineClue
unfolding clue_words
clue_reader = counted_reader no_block block_reader words words_none words_next (λ n. n) (λ n. refl) 1 (λ n o. refl) 3

abbrev pub FineLines : List (List Block) → Type 0
FineLines ls = (off_size (length ls) ≡ false) × Every [] FineClue ls

pub lines_reader : Reader read_lines lines_words FineLines
unfolding flat_map lines_words
lines_reader = counted_reader [] clue_reader clues_words refl (λ bs ls. refl) (λ n. n) (λ n. refl) 1 (λ n o. refl) 2

-- ---- cells

pub mask_reader : Reader read_mask (λ m. m ∷ []) (λ m. eqb m 0 ≡ false)
mask_reader = word_reader 1 (λ m. eqb m 0) 8

abbrev pub FineCells : ℕ → List ℕ → Type 0
FineCells area masks = (not (eqb (length masks) area) ≡ false) × Every 0 (λ m. eqb m 0 ≡ false) masks

pub cells_reader : (area : ℕ) → Reader (read_cells area) cells_words (FineCells area)
unfolding cells_words
cells_reader area = counted_reader 0 mask_reader (λ l. l) refl (λ m l. refl) (λ n. n) (λ n. refl) 1 (λ n o. refl) 7

-- ---- the whole

pub record FinePuzzle (z : Puzzle) : Type 0 where
  pub columns : FineLines z.columns
  pub rows : FineLines z.rows
  pub masks : FineCells (width z * height z) z.masks

puzzle_only : (i : ℕ) (ws : List ℕ) (z : Puzzle) (j : ℕ) (us : List ℕ) → read_puzzle i ws ≡ got z j us → Reads puzzle_words FinePuzzle i ws z j us
unfolding read_puzzle puzzle_words
puzzle_only i ws z j us e =
    let p = next_got (read_lines i ws) _ e in
    let q = next_got (read_lines p.place p.left) _ p.then in
    let r = next_got (read_cells (length p.value * length q.value) q.place q.left) _ q.then in
    let C = lines_reader.only i ws p.value p.place p.left p.got_is in
    let R = lines_reader.only p.place p.left q.value q.place q.left q.got_is in
    let M = (cells_reader (length p.value * length q.value)).only q.place q.left r.value r.place r.left r.got_is in
    let cw = lines_words p.value in
    let rw' = lines_words q.value in
    let mw = cells_words r.value in
    reads_as r.then
    (record {
      words_are = C.words_are ∙ rw (append_assoc, append_assoc) (ap (λ (l : List ℕ). cw ++ l) (R.words_are ∙ ap (λ (l : List ℕ). rw' ++ l) M.words_are));
      place_is = omega (arith, C.place_is, R.place_is, M.place_is, length-append cw (rw' ++ mw), length-append rw' mw);
      fine = record { columns = C.fine; rows = R.fine; masks = M.fine };
    })

puzzle_back : (i : ℕ) (z : Puzzle) (us : List ℕ) → FinePuzzle z → read_puzzle i (puzzle_words z ++ us) ≡ got z (i + length (puzzle_words z)) us
unfolding read_puzzle puzzle_words
puzzle_back i z us F =
    let cw = lines_words z.columns in
    let rw' = lines_words z.rows in
    let mw = cells_words z.masks in
    let n : i + length cw + length rw' + length mw ≡ i + length (cw ++ (rw' ++ mw)) = omega (arith, length-append cw (rw' ++ mw), length-append rw' mw) in
    rw (
      append_assoc,
      append_assoc,
      lines_reader.back i z.columns (rw' ++ (mw ++ us)) F.columns,
      lines_reader.back (i + length cw) z.rows (mw ++ us) F.rows,
      (cells_reader (width z * height z)).back (i + length cw + length rw') z.masks us F.masks,
      n,
    )

pub puzzle_reader : Reader read_puzzle puzzle_words FinePuzzle
puzzle_reader = record { only = puzzle_only; back = puzzle_back }
