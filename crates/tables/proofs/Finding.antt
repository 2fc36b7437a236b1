-- What the laid table holds of a line, for the functions that read it.
use mathlib.Core.Path.{◌≡◌, refl, sym, ap, ◌∙◌}
use mathlib.Core.List.{List}
use Prim.Native.Nat.{ℕ, suc, ◌+◌, ◌-◌, ◌*◌, ◌/◌, ◌≤◌, ◌<◌}
use native.Mathlib.Omega.{arith}
use native.Mathlib.Nat.{add-zero}
use native.Mathlib.Numerals.{add-one}
use lib.ListN.{length, drop, get_or}
use lib.Seq.{get_or-take, get_or-drop}
use Rattle.lines.specs.Clue.{gap, packed}
use Rattle.lines.specs.Arrangement.{at}
use Rattle.lines.proofs.Checks.{size_within}
use Rattle.lines.proofs.ClueWords.{starts_positions, starts_start}
use Rattle.puzzles.specs.Puzzle.{Puzzle, lines, clue_at, length_at}
use Rattle.puzzles.specs.Checks.{puzzle, Sectioned}
use Rattle.puzzles.specs.Firsts.{first_at, positions_at}
use Rattle.tables.specs.declared.table.Parts.{Parts}
use Rattle.tables.specs.Layout.{line_size, table_size, first_word, positions_word, start_word}
use Rattle.tables.specs.Table.{begin_at, laid_words, LineLaid, Laid, Found}
use Rattle.tables.proofs.Beginning.{Here}
use Rattle.tables.proofs.Laying.{line_size_lem, line_fine, line_here, lines_most, line_vars, first_most}

module _ (z : Puzzle) (table : List ℕ) (l : ℕ) (L : LineLaid z table l) where
  laid_word : (i : ℕ) → i < length (laid_words z l) → get_or table (line_size * l + i) 0 ≡ get_or (laid_words z l) i 0
  laid_word i h = sym (get_or-drop (line_size * l) table i 0) ∙ sym (get_or-take (length (laid_words z l)) (drop (line_size * l) table) i 0 h) ∙ ap (λ (w : List ℕ). get_or w i 0) L

  pub laid_begin : get_or table (line_size * l) 0 ≡ begin_at z l
  unfolding laid_words
  laid_begin = ap (λ (k : ℕ). get_or table k 0) (sym (add-zero (line_size * l))) ∙ laid_word 0 (omega (arith, line_size_lem z l))

  pub laid_first : get_or table (line_size * l + first_word) 0 ≡ first_at z l
  unfolding laid_words
  laid_first = laid_word first_word (omega (arith, line_size_lem z l))

  pub laid_positions : get_or table (line_size * l + positions_word) 0 ≡ positions_at z l
  unfolding laid_words
  laid_positions = laid_word positions_word (omega (arith, line_size_lem z l)) ∙ starts_positions (length_at z l) (clue_at z l)

  pub laid_start : (b : ℕ) → b < length (clue_at z l) → get_or table (line_size * l + start_word b) 0 ≡ (at (packed gap (clue_at z l)) b).start
  unfolding laid_words
  laid_start b h =
      let e : start_word b ≡ suc (suc (2 + b)) = omega arith in
      laid_word (start_word b) (omega (arith, line_size_lem z l)) ∙ rw e (starts_start (length_at z l) (clue_at z l) b)

-- line l, found through the table
module _ (ws : List ℕ) (S : Sectioned ws) (table : List ℕ) (L : Laid (puzzle ws) table) (l : ℕ) (h : l < lines (puzzle ws)) where
  here : Here ws (begin_at (puzzle ws) l) (clue_at (puzzle ws) l)
  here = line_here ws S l h

  -- from the word of its block count
  module _ {count : ℕ} (e : count ≡ get_or table (line_size * l) 0) where
    pub count_is : count ≡ begin_at (puzzle ws) l
    count_is = e ∙ laid_begin (puzzle ws) table l (L l h)

    pub count_within : count + 1 + 2 * get_or ws count 0 ≤ length ws
    count_within = rw count_is (omega (arith, here.count_is, here.within))

    module _ {n : ℕ} (q : n ≡ get_or ws count 0) (long : table_size ≤ length table) where
      pub found : Found ws table l (record { line = line_size * l; begin = count + 1; end = count + 1 + 2 * n })
      found =
          let b = rw count_is at q in
          let m : n ≡ length (clue_at (puzzle ws) l) = b ∙ here.count_is in
          let d : count + 1 + 2 * n - (count + 1) ≡ 2 * length (clue_at (puzzle ws) l) = omega arith in
          record {
            line_is = refl;
            line_within = omega (arith, lines_most ws S l h);
            begin_is = rw count_is;
            end_is = rw m;
            end_within = omega (arith, count_within, q);
            clue_is = rw (d, count_is) here.part_is;
          }

  -- the first variable behind those of the line
  module _ {p : Parts} (F : Found ws table l p) {first q : ℕ} (fe : first ≡ get_or table (p.line + first_word) 0) (qe : q ≡ get_or table (p.line + positions_word) 0) where
    blocks_are : (p.end - p.begin) / 2 ≡ length (clue_at (puzzle ws) l)
    blocks_are = omega (arith, F.end_is)

    first_is : first ≡ first_at (puzzle ws) l
    first_is = fe ∙ rw F.line_is (laid_first (puzzle ws) table l (L l h))

    positions_are : q ≡ positions_at (puzzle ws) l
    positions_are = qe ∙ rw F.line_is (laid_positions (puzzle ws) table l (L l h))

    pub found_next : first + (p.end - p.begin) / 2 * q ≡ first_at (puzzle ws) (l + 1)
    unfolding first_at
    found_next = rw (add-one l, blocks_are, first_is, positions_are)

    pub found_few : ((p.end - p.begin) / 2 * q ≤ 4160) × (first ≤ 532481)
    found_few =
        let M = line_fine ws S l h in
        (rw (blocks_are, positions_are) (line_vars (puzzle ws) l M.few (size_within (length_at (puzzle ws) l) M.sized)), omega (arith, first_is, first_most ws S l (omega arith), lines_most ws S l h))
