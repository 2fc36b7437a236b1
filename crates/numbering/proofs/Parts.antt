-- The parts of table and words that hold a line of an accepted puzzle.
use mathlib.Core.Path.{◌≡◌, sym, ◌∙◌}
use mathlib.Core.List.{List}
use Prim.Native.Nat.{ℕ, ◌+◌, ◌-◌, ◌*◌, ◌/◌, ◌≤◌, ◌<◌}
use native.Mathlib.Omega.{arith}
use lib.ListN.{length, take, drop, get_or, length-take, length-drop}
use lib.Seq.{get_or-take, get_or-drop, ext_get_or}
use Rattle.lists.proofs.Eaches.{length_tab, get_or_tab}
use Rattle.lines.specs.Clue.{words, gap, packed}
use Rattle.lines.specs.Arrangement.{at}
use Rattle.lines.proofs.ClueWords.{words_length, word_size, word_color}
use Rattle.lines.proofs.Packing.{packed_length, packed_size, packed_color}
use Rattle.puzzles.specs.Puzzle.{Puzzle, lines, clue_at}
use Rattle.puzzles.specs.Checks.{puzzle}
use Rattle.puzzles.specs.Good.{Good}
use Rattle.puzzles.proofs.Accepting.{accepted_is, accepted_sectioned}
use Rattle.tables.specs.Layout.{line_size, table_size, first_word, positions_word, start_word}
use Rattle.tables.specs.Table.{LineLaid, Found}
use Rattle.tables.specs.declared.table.Parts.{Parts}
use Rattle.boards.specs.Reading.{Held}
use Rattle.boards.specs.declared.board.Board.{Board}
use Rattle.tables.proofs.Finding.{laid_first, laid_positions, laid_start}
use Rattle.numbering.specs.Variables.{line_at}
use Rattle.numbering.specs.Tables.{Ready, line_of, Sound}
use Rattle.numbering.proofs.Bounds.{line_sound}

-- words that were read are ready
pub held_ready : (ws table : List ℕ) (b : Board) → Held ws table b → table_size ≤ length table → Ready ws table
held_ready ws table b H l = record {
  sectioned = accepted_sectioned ws H.checked;
  good = (accepted_is 0 ws H.checked).good;
  laid = H.laid;
  long = l;
}

module _ (z : Puzzle) (table : List ℕ) (l : ℕ) (G : Good z) (h : l < lines z) (L : LineLaid z table l) where
  -- a word of the line's part of the table
  part_word : (i : ℕ) → i < line_size → get_or (take line_size (drop (line_size * l) table)) i 0 ≡ get_or table (line_size * l + i) 0
  part_word i k = get_or-take line_size (drop (line_size * l) table) i 0 k ∙ get_or-drop (line_size * l) table i 0

  part_run : (b : ℕ) → b < length (clue_at z l)
      → record { start = get_or (take line_size (drop (line_size * l) table)) (start_word b) 0; size = get_or (words (clue_at z l)) (2 * b) 0; color = get_or (words (clue_at z l)) (2 * b + 1) 0 } ≡ at (packed gap (clue_at z l)) b
  part_run b k =
      rw (part_word (start_word b) (omega (arith, G.few l h)) ∙ laid_start z table l L b k, word_size (clue_at z l) b ∙ sym (packed_size gap (clue_at z l) b), word_color (clue_at z l) b ∙ sym (packed_color gap (clue_at z l) b))

  part_runs : (line_of (take line_size (drop (line_size * l) table)) (words (clue_at z l))).runs ≡ packed gap (clue_at z l)
  unfolding line_of
  part_runs =
      let bs = clue_at z l in
      let n : length (words bs) / 2 ≡ length bs = omega (arith, words_length bs) in
      rw n (ext_get_or (record { start = 0; size = 0; color = 0 }) _ _ (length_tab (length bs) _ ∙ sym (packed_length gap bs)) (λ b k.
      let k' : b < length bs = rw length_tab at k in
      get_or_tab (length bs) _ _ b k' ∙ part_run b k'))

  pub part_line : line_of (take line_size (drop (line_size * l) table)) (words (clue_at z l)) ≡ line_at z l
  part_line = unfold line_of line_at in
      rw (← part_runs, ← laid_first z table l L, ← laid_positions z table l L, ← part_word first_word (omega arith), ← part_word positions_word (omega arith))

-- line l, as it was found
module _ (ws table : List ℕ) (R : Ready ws table) (l : ℕ) (h : l < lines (puzzle ws)) where
  pub ready_sound : Sound (line_at (puzzle ws) l)
  ready_sound = line_sound (puzzle ws) R.good l h

  -- `&table[line..line + LINE_SIZE]` and `&words[begin..end]` hold it
  module _ {p : Parts} (F : Found ws table l p) where
    pub found_line : line_of (take (p.line + line_size - p.line) (drop p.line table)) (take (p.end - p.begin) (drop p.begin ws)) ≡ line_at (puzzle ws) l
    found_line =
        let n : line_size * l + line_size - line_size * l ≡ line_size = omega arith in
        rw (F.line_is, n, F.clue_is) (part_line (puzzle ws) table l R.good h (R.laid l h))

    pub found_sound : Sound (line_of (take (p.line + line_size - p.line) (drop p.line table)) (take (p.end - p.begin) (drop p.begin ws)))
    found_sound = rw found_line ready_sound

    pub found_long : line_size ≤ length (take (p.line + line_size - p.line) (drop p.line table))
    found_long = rw (length-take, length-drop) (omega (arith, F.line_within))
