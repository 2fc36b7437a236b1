-- Accepted words are the words of a good puzzle, which is read from them; and a good puzzle's words are accepted and read as it.
use mathlib.Core.Path.{◌≡◌, refl, sym, ap, ◌∙◌}
use mathlib.Core.Bool.{true, false, not}
use mathlib.Core.List.{List, [], ◌∷◌, append-nil}
use Prim.Native.Nat.{ℕ, zero, suc, ◌+◌, ◌≤◌, ◌<◌}
use native.Mathlib.Omega.{arith}
use lib.Dec.{eqb, ltb}
use lib.ListN.{length, get_or}
use borrow.Author.Tests.{eqb-false, eqb-true, eq-eqb, ne_eqb, le-ltb, ltb-false}
use Rattle.lists.proofs.Tests.{neither, both, not_false}
use Rattle.refusals.specs.Verdict.{passed}
use Rattle.refusals.specs.Walk.{got, walked, read_or}
use Rattle.refusals.proofs.Answering.{first_accepted, then_accepted}
use Rattle.refusals.proofs.Offending.{none_off, off_none}
use Rattle.refusals.proofs.Readers.{walked_is}
use Rattle.bits.specs.Bits.{bit}
use Rattle.lines.specs.Clue.{Block, gap, min_space}
use Rattle.lines.specs.Calls.{off_size}
use Rattle.lines.specs.Arrangement.{Proper, block_at}
use Rattle.lines.proofs.Checks.{size_within}
use Rattle.puzzles.specs.Puzzle.{Puzzle, width, height, lines, clue_at, length_at, puzzle_words}
use Rattle.puzzles.specs.Colors.{known, off_solved}
use Rattle.puzzles.specs.Walk.{read_puzzle}
use Rattle.puzzles.specs.Checks.{colors, space_checks, column_checks, spaces, meaning_checks, puzzle_of, checks_of, puzzle, Sectioned, puzzle_checks}
use Rattle.puzzles.specs.Good.{Good}
use Rattle.puzzles.proofs.Readers.{FineClue, FinePuzzle, puzzle_reader}
use Rattle.puzzles.proofs.Lines.{clue_column, clue_row, each_line, spaces_fit}

-- ---- colours that are known

pub known_each : (K : ℕ) (bs : List Block) → known K bs ≡ true → (b : ℕ) → b < length bs → bit K (block_at bs b).color ≡ true
unfolding known
known_each K [] e b h = absurd (omega arith)
known_each K (x ∷ bs) e zero h = (both (bit K x.color) (known K bs) e).0
known_each K (x ∷ bs) e (suc b) h = known_each K bs (both (bit K x.color) (known K bs) e).1 b (omega arith)

pub each_known : (K : ℕ) (bs : List Block) → ((b : ℕ) → b < length bs → bit K (block_at bs b).color ≡ true) → known K bs ≡ true
unfolding known
each_known K [] h = refl
each_known K (x ∷ bs) h = rw (h 0 (omega arith)) (each_known K bs (λ b l. h (suc b) (omega arith)))

-- ---- good puzzles

pub size_some : (n : ℕ) → off_size n ≡ false → 0 < n
size_some n e = omega (arith, eqb-false n 0 (neither (eqb n 0) (ltb 64 n) e).0)

size_fine : (n : ℕ) → 0 < n → n ≤ 64 → off_size n ≡ false
size_fine n h m = rw (ne_eqb n 0 (λ e. omega arith), le-ltb 64 n m)

-- a line whose clue was read
pub record FineLine (n : ℕ) (bs : List Block) : Type 0 where
  pub sized : off_size n ≡ false
  pub few : length bs ≤ 64
  pub proper : Proper bs
  pub colors_most : (b : ℕ) → b < length bs → (block_at bs b).color ≤ 31

fine_line : (n : ℕ) (bs : List Block) → off_size n ≡ false → FineClue bs → FineLine n bs
fine_line n bs s F = record {
  sized = s;
  few = ltb-false 64 (length bs) F.0;
  proper = record { sizes = λ b h. (F.1 b h).sized; colors = λ b h. (F.1 b h).colored };
  colors_most = λ b h. (F.1 b h).color_most;
}

pub fine_lines : (z : Puzzle) → FinePuzzle z → (l : ℕ) → l < lines z → FineLine (length_at z l) (clue_at z l)
fine_lines z F = each_line z FineLine (λ l h. fine_line (height z) _ F.rows.0 (F.columns.1 l h)) (λ l h. fine_line (width z) _ F.columns.0 (F.rows.1 l h))

module _ (z : Puzzle) where
  good_of : FinePuzzle z → passed ≡ meaning_checks z → Good z
  unfolding meaning_checks spaces
  good_of F e =
      let s = first_accepted (spaces z) _ e in
      let C = first_accepted (space_checks (height z) 0 z.columns) _ s in
      let R = then_accepted (space_checks (height z) 0 z.columns) _ s in
      let k = then_accepted (spaces z) _ e in
      let K = first_accepted (column_checks (colors z) z.columns) _ k in
      let M = then_accepted (column_checks (colors z) z.columns) _ k in
      let fine = fine_lines z F in
      record {
        width_some = size_some (width z) F.columns.0;
        width_most = size_within (width z) F.columns.0;
        height_some = size_some (height z) F.rows.0;
        height_most = size_within (height z) F.rows.0;
        few = λ l h. (fine l h).few;
        proper = λ l h. (fine l h).proper;
        colors_most = λ l b h g. (fine l h).colors_most b g;
        fits = each_line z (λ n bs. min_space gap bs ≤ n)
            (λ l h. ltb-false _ _ (none_off [] (λ bs. ltb (height z) (min_space gap bs)) 6 0 z.columns C l h))
            (λ l h. ltb-false _ _ (none_off [] (λ bs. ltb (width z) (min_space gap bs)) 6 (width z) z.rows R l h));
        area = eqb-true _ _ (not_false _ F.masks.0);
        masks_some = λ i h. omega (arith, eqb-false (get_or z.masks i 0) 0 (F.masks.1 i h));
        columns_known = λ l b h g. rw (clue_column z l h)
            (known_each (colors z) (get_or z.columns l []) (not_false _ (none_off [] (λ bs. not (known (colors z) bs)) 9 0 z.columns K l h)) b (rw (clue_column z l h) at g));
        solved_known = none_off 0 (off_solved (colors z)) 10 0 z.masks M;
      }

  module _ (G : Good z) where
    fine_clue : (l : ℕ) → l < lines z → FineClue (clue_at z l)
    fine_clue l h = (
      le-ltb 64 _ (G.few l h),
      λ b g. record { sized = (G.proper l h).sizes b g; colored = (G.proper l h).colors b g; color_most = G.colors_most l b h g },
    )

    fine_of : FinePuzzle z
    fine_of = record {
      columns = (size_fine (width z) G.width_some G.width_most, λ l h. rw (← clue_column z l h) (fine_clue l (omega arith)));
      rows = (size_fine (height z) G.height_some G.height_most, λ l h. rw (← clue_row z l) (fine_clue (width z + l) (omega arith)));
      masks = (rw (eq-eqb _ _ G.area), λ i h. ne_eqb (get_or z.masks i 0) 0 (λ e. omega (arith, G.masks_some i h)));
    }

    meaning_of : meaning_checks z ≡ passed
    unfolding meaning_checks
    meaning_of = rw (
      spaces_fit z G.fits,
      off_none [] (λ bs. not (known (colors z) bs)) 9 0 z.columns
          (λ l h. rw (each_known (colors z) (get_or z.columns l []) (λ b g. rw (clue_column z l h) at (G.columns_known l b h (rw (clue_column z l h) g))))),
      off_none 0 (off_solved (colors z)) 10 0 z.masks G.solved_known,
    )

    -- its words are read as it, from any place on
    reads : (i : ℕ) → read_puzzle i (puzzle_words z) ≡ got z (i + length (puzzle_words z)) []
    reads i = ap (read_puzzle i) (sym (append-nil (puzzle_words z))) ∙ puzzle_reader.back i z [] fine_of

    pub good_read : (i : ℕ) → puzzle_of (read_puzzle i (puzzle_words z)) ≡ z
    unfolding read_or
    good_read i = rw (reads i)

    -- and accepted
    pub good_accepted : (i : ℕ) → passed ≡ checks_of (read_puzzle i (puzzle_words z))
    unfolding walked read_or
    good_accepted i = sym (rw (reads i) meaning_of)

-- ---- accepted words

-- what holds once the sections are read, from place i on
pub record Walked (i : ℕ) (ws : List ℕ) : Type 0 where
  pub words_are : ws ≡ puzzle_words (puzzle_of (read_puzzle i ws))
  pub fine : FinePuzzle (puzzle_of (read_puzzle i ws))

pub record Accepted (i : ℕ) (ws : List ℕ) : Type 0 where
  pub words_are : ws ≡ puzzle_words (puzzle_of (read_puzzle i ws))
  pub good : Good (puzzle_of (read_puzzle i ws))

module _ (i : ℕ) (ws : List ℕ) where
  pub walked_sections : passed ≡ walked 11 (read_puzzle i ws) → Walked i ws
  walked_sections e = let a = walked_is _ 11 (read_puzzle i ws) (puzzle_reader.only i ws) e in record { words_are = a.0; fine = a.1 }

  -- the one inversion: all that holds of accepted words
  pub accepted_is : passed ≡ checks_of (read_puzzle i ws) → Accepted i ws
  accepted_is e =
      let W = walked_sections (first_accepted (walked 11 (read_puzzle i ws)) _ e) in
      record { words_are = W.words_are; good = good_of (puzzle_of (read_puzzle i ws)) W.fine (then_accepted (walked 11 (read_puzzle i ws)) _ e) }

pub accepted_sectioned : (ws : List ℕ) → passed ≡ puzzle_checks ws → Sectioned ws
accepted_sectioned ws e = first_accepted (walked 11 (read_puzzle 0 ws)) _ e

pub sizes : (ws : List ℕ) → Sectioned ws → (width (puzzle ws) ≤ 64) × (height (puzzle ws) ≤ 64)
sizes ws S = let F = (walked_sections 0 ws S).fine in (size_within (width (puzzle ws)) F.columns.0, size_within (height (puzzle ws)) F.rows.0)
