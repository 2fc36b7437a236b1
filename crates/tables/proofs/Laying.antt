-- Laying a puzzle's lines: one line, and one after another.
use mathlib.Core.Path.{◌≡◌, refl, sym, ap, ◌∙◌}
use mathlib.Core.Bool.{cond}
use mathlib.Core.List.{List, [], ◌∷◌, flat_map}
use Prim.Native.Nat.{ℕ, zero, suc, ◌+◌, ◌-◌, ◌*◌, ◌≤◌, ◌<◌}
use native.Mathlib.Omega.{arith}
use native.Mathlib.Nat.{mul-le-mul_right}
use native.Mathlib.Decide.{dec_lt}
use lib.Dec.{eqb, ltb}
use lib.ListN.{length, take, drop, get_or, length-drop}
use borrow.Author.Tests.{lt-ltb, le-ltb, ltb-true, ltb-false}
use borrow.Rule.Slice.PartMut.{put_mid}
use Rattle.std.specs.Prelude.{Result, Ok, Err}
use Rattle.std.specs.Result.{result_or}
use Rattle.lists.specs.Wrote.{Wrote}
use Rattle.lists.proofs.Tests.{cond_most}
use Rattle.lists.proofs.Writing.{wrote_then, wrote_tail, wrote_there, wrote_before, wrote_at, wrote_kept, tail_is}
use Rattle.refusals.specs.Verdict.{Verdict, accepted, passed, refuse, and_then}
use Rattle.refusals.specs.Told.{refusal}
use Rattle.refusals.specs.Outcome.{Answers}
use Rattle.refusals.specs.declared.Refusal.{Refusal}
use Rattle.refusals.proofs.Answering.{refused_fails, refused_so, refuse_accepted, refused_test, accepted_test}
use Rattle.refusals.proofs.Called.{refused_by, accepted_checks, accepted_wrote}
use Rattle.lines.specs.Clue.{words, gap, min_space}
use Rattle.lines.specs.Calls.{clue_checks, starts_words}
use Rattle.lines.proofs.Checks.{proper_clue, size_within}
use Rattle.lines.proofs.ClueWords.{starts_size, starts_positions, positions_bound}
use Rattle.puzzles.specs.Puzzle.{Puzzle, width, height, lines, clue_at, length_at, cells_at}
use Rattle.puzzles.specs.Checks.{puzzle, Sectioned, spaces}
use Rattle.puzzles.specs.Firsts.{first_at, positions_at}
use Rattle.tables.specs.Layout.{line_size, table_size}
use Rattle.tables.specs.Table.{begin_at, laid_words, LineLaid, Laid, Standing}
use Rattle.puzzles.proofs.Accepting.{walked_sections, FineLine, fine_lines}
use Rattle.tables.proofs.Beginning.{Here, clue_here, begin_next, begin_cells}
use Rattle.puzzles.proofs.Lines.{spaces_fit, spaces_short}

-- `r.or(Err(e))?`: what went on, and what was handed up
module _ {A : Type 0} (e : Refusal) where
  pub or_ok : (r : Result A Refusal) {x : A} → result_or r (Err e) ≡ Ok x → r ≡ Ok x
  or_ok (Ok y) p = p
  or_ok (Err why) p = let z : ◌≡◌ {A = ℕ} 0 1 = cc in absurd (omega arith)

  pub or_err : (r : Result A Refusal) {x : Refusal} → result_or r (Err e) ≡ Err x → (why : Refusal) × (r ≡ Err why)
  or_err (Ok y) p = let z : ◌≡◌ {A = ℕ} 0 1 = cc in absurd (omega arith)
  or_err (Err why) p = (why, refl)

pub line_size_lem : (z : Puzzle) (l : ℕ) → length (laid_words z l) ≡ 4 + length (clue_at z l)
unfolding laid_words
line_size_lem z l = omega (arith, starts_size (length_at z l) (clue_at z l))

pub line_vars : (z : Puzzle) (l : ℕ) → length (clue_at z l) ≤ 64 → length_at z l ≤ 64 → length (clue_at z l) * positions_at z l ≤ 4160
line_vars z l few short =
    omega (arith, mul-le-mul_right (positions_at z l) few, positions_bound (length_at z l) (clue_at z l))

pub first_most : (ws : List ℕ) → Sectioned ws → (l : ℕ) → l ≤ lines (puzzle ws) → first_at (puzzle ws) l ≤ 1 + 4160 * l
unfolding first_at
first_most ws S zero h = omega arith
first_most ws S (suc l) h =
    let F = fine_lines (puzzle ws) (walked_sections 0 ws S).fine l (omega arith) in
    omega (arith, first_most ws S l (omega arith), line_vars (puzzle ws) l F.few (size_within (length_at (puzzle ws) l) F.sized))

-- line l, laid where it fits; the number of its positions stands at `to`
pub record LineDone (z : Puzzle) (l cells : ℕ) (table table' : List ℕ) (to next : ℕ) : Type 0 where
  pub fits : min_space gap (clue_at z l) ≤ cells
  pub wrote : Wrote (laid_words z l) table (line_size * l) table' next
  pub kept : length table' ≡ length table
  pub positions_is : get_or table' to 0 ≡ positions_at z l

-- ---- one line of words whose sections were read

module _ (ws : List ℕ) (S : Sectioned ws) (l : ℕ) (h : l < lines (puzzle ws)) where
  abbrev z : Puzzle
  z = puzzle ws

  pub line_fine : FineLine (length_at z l) (clue_at z l)
  line_fine = fine_lines z (walked_sections 0 ws S).fine l h

  pub line_here : Here ws (begin_at z l) (clue_at z l)
  line_here = rw (← (walked_sections 0 ws S).words_are) at (clue_here z l h)

  pub lines_most : lines z ≤ 128
  lines_most = let F = (walked_sections 0 ws S).fine in omega (arith, size_within (width z) F.columns.0, size_within (height z) F.rows.0)

  module _ {at first : ℕ} (P : Standing z l at first) where
    -- what the sums and the stores of a turn need
    pub record Room : Type 0 where
      pub low : l < 128
      pub count_is : get_or ws at 0 ≡ length (clue_at z l)
      pub few : length (clue_at z l) ≤ 64
      pub within : at + 1 + 2 * length (clue_at z l) ≤ length ws
      pub at_most : at ≤ 1 + 130 * l
      pub first_most : first ≤ 1 + 4160 * l

    pub room : Room
    room = record {
      low = omega (arith, lines_most);
      count_is = rw P.at_is line_here.count_is;
      few = line_fine.few;
      within = rw P.at_is line_here.within;
      at_most = P.at_most;
      first_most = P.first_most;
    }

    -- `&words[at + 1..at + 1 + 2 * n]` are the clue's words
    pub clue_part : {n : ℕ} → n ≡ get_or ws at 0 → take (at + 1 + 2 * n - (at + 1)) (drop (at + 1) ws) ≡ words (clue_at z l)
    clue_part {n} e =
        let m : at + 1 + 2 * n - (at + 1) ≡ 2 * length (clue_at z l) = omega (arith, room.count_is) in
        rw (m, P.at_is) line_here.part_is

    module _ {cells : ℕ} (ce : cells ≡ length_at z l) where
      line_checks_lem : clue_checks cells (words (clue_at z l)) ≡ refuse (ltb cells (min_space gap (clue_at z l))) 6 0 passed
      line_checks_lem = rw ce (proper_clue (length_at z l) (clue_at z l) line_fine.sized line_fine.few line_fine.proper line_fine.colors_most)

      -- the call that writes the starts into the tail of the table, behind where it begins and its first variable
      module _ (table : List ℕ) (long : table_size ≤ length table) {stored : List ℕ} {to : ℕ} (W : Wrote (at ∷ first ∷ []) table (line_size * l) stored to)
          {n : ℕ} (e : n ≡ get_or ws at 0) {tail : List ℕ} (a : Result ℕ Refusal)
          (A : Answers (clue_checks cells (take (at + 1 + 2 * n - (at + 1)) (drop (at + 1) ws))) (starts_words cells (take (at + 1 + 2 * n - (at + 1)) (drop (at + 1) ws)))
          (take (length stored - to) (drop to stored)) a tail) where
        called : Answers (clue_checks cells (words (clue_at z l))) (starts_words cells (words (clue_at z l))) (take (length stored - to) (drop to stored)) a tail
        called = rw (clue_part e) at A

        stored_long : length stored ≡ length table
        stored_long = wrote_kept (omega (arith, room.low)) W

        tail_room : length (starts_words cells (words (clue_at z l))) ≤ length (take (length stored - to) (drop to stored))
        tail_room = rw (tail_is stored to) (omega (arith, room, stored_long, W.next_is, length-drop to stored, starts_size cells (clue_at z l)))

        pub lay_refused : (why : Refusal) → a ≡ Err why → cells < min_space gap (clue_at z l)
        lay_refused why r = elim (dec_lt cells (min_space gap (clue_at z l))) [
          | yes f ↦ f
          | no f ↦ absurd (refused_fails why (refused_by (rw r at called) tail_room) (sym (line_checks_lem ∙ rw (le-ltb cells (min_space gap (clue_at z l)) (omega arith)))))
        ]

        module _ {used : ℕ} (r : a ≡ Ok used) where
          accepted_called : Answers (clue_checks cells (words (clue_at z l))) (starts_words cells (words (clue_at z l))) (take (length stored - to) (drop to stored)) (Ok used) tail
          accepted_called = rw r at called

          lay_fits : min_space gap (clue_at z l) ≤ cells
          lay_fits = ltb-false _ _ (refuse_accepted (ltb cells (min_space gap (clue_at z l))) _ _ _ (accepted_checks accepted_called ∙ line_checks_lem)).0

          lay_wrote : Wrote (laid_words z l) table (line_size * l) (put_mid to (length stored - to) stored tail) (to + used)
          unfolding laid_words
          lay_wrote = rw (← P.at_is, ← P.first_is, ← ce) (wrote_then (omega (arith, room.low)) W (wrote_tail (accepted_wrote accepted_called)))

          lay_positions : get_or (put_mid to (length stored - to) stored tail) to 0 ≡ positions_at z l
          lay_positions =
              ap (λ (k : ℕ). get_or (put_mid to (length stored - to) stored tail) k 0) (omega arith)
              ∙ wrote_at {at = to} (omega (arith, W.next_is, room.low, stored_long)) (wrote_tail (accepted_wrote accepted_called)) 0 0 (omega (arith, starts_size cells (clue_at z l)))
              ∙ starts_positions cells (clue_at z l)
              ∙ rw ce

          pub line_done : LineDone z l cells table (put_mid to (length stored - to) stored tail) to (to + used)
          line_done = record { fits = lay_fits; wrote = lay_wrote; kept = wrote_kept (omega (arith, room, line_size_lem z l)) lay_wrote; positions_is = lay_positions }

-- ---- one after another

-- the lines before l have room, and are laid
pub record LayingLines (z : Puzzle) (table : List ℕ) (l at first : ℕ) : Type 0 where
  pub within : l ≤ lines z
  pub stands : Standing z l at first
  pub fit : (j : ℕ) → j < l → min_space gap (clue_at z j) ≤ length_at z j
  pub laid : (j : ℕ) → j < l → LineLaid z table j

pub laying_first : (z : Puzzle) (table : List ℕ) → 0 < width z → LayingLines z table 0 1 1
unfolding begin_at first_at flat_map
laying_first z table h = record {
  within = omega arith;
  stands = record { at_is = rw (lt-ltb 0 (width z) h); at_most = omega arith; first_is = refl; first_most = omega arith };
  fit = λ j g. absurd (omega arith);
  laid = λ j g. absurd (omega arith);
}

pub line_length_is : (z : Puzzle) (l : ℕ) {w h n : ℕ} → w ≡ width z → h ≡ height z → n ≡ cond (ltb l w) h w → n ≡ length_at z l
unfolding length_at
line_length_is z l we he e = e ∙ rw (we, he)

-- what the call that lays line l told
abbrev pub Told : Puzzle → ℕ → ℕ → Verdict ℕ → Type 0
Told z l cells v = v ≡ refuse (ltb cells (min_space gap (clue_at z l))) 6 l (accepted (length (clue_at z l) * positions_at z l))

module _ (ws : List ℕ) (S : Sectioned ws) {table : List ℕ} {l at first : ℕ} (L : LayingLines (puzzle ws) table l at first) (h : l < lines (puzzle ws)) where
  pub laying_short : {cells : ℕ} → cells ≡ length_at (puzzle ws) l → (why : Refusal) → Told (puzzle ws) l cells (refusal why) → {X : Type 0}
      → (refusal {A = ℕ} why ≡ and_then (spaces (puzzle ws)) (accepted (cells_at (puzzle ws)))) × (passed ≡ spaces (puzzle ws) → X)
  laying_short {cells} ce why t =
      let s = refused_test _ why (ltb cells (min_space gap (clue_at (puzzle ws) l))) _ _ t in
      let f : cells < min_space gap (clue_at (puzzle ws) l) = ltb-true _ _ s.0 in
      refused_so why _ _ (s.1 ∙ rw (← spaces_short (puzzle ws) l h L.fit (omega arith)))

  pub laying_vars : (cells : ℕ) {v : ℕ} → Told (puzzle ws) l cells (accepted v) → v ≤ 4160
  laying_vars cells t =
      omega (
        arith,
        (accepted_test _ (ltb cells (min_space gap (clue_at (puzzle ws) l))) _ _ t).1,
        line_vars (puzzle ws) l (line_fine ws S l h).few (size_within _ (line_fine ws S l h).sized),
      )

  pub laying_next : table_size ≤ length table → {cells : ℕ} → cells ≡ length_at (puzzle ws) l → {v : ℕ} → Told (puzzle ws) l cells (accepted v) → {table' : List ℕ}
      → (min_space gap (clue_at (puzzle ws) l) ≤ cells → (next : ℕ) × Wrote (laid_words (puzzle ws) l) table (line_size * l) table' next)
      → {n w at' : ℕ} → n ≡ get_or ws at 0 → w ≡ width (puzzle ws) → at' ≡ at + 1 + 2 * n + cond (eqb (l + 1) w) 1 0
      → LayingLines (puzzle ws) table' (l + 1) at' (first + v)
  unfolding first_at
  laying_next long {cells} ce {v = v} t wrote {n} {w = wide} {at' = at'} ne we ae =
      let R = room ws S l h L.stands in
      let s = accepted_test _ (ltb cells (min_space gap (clue_at (puzzle ws) l))) _ _ t in
      let fc : min_space gap (clue_at (puzzle ws) l) ≤ cells = ltb-false _ _ s.0 in
      let f : min_space gap (clue_at (puzzle ws) l) ≤ length_at (puzzle ws) l = omega arith in
      let ve = s.1 in
      let w = (wrote fc).1 in
      let m : n ≡ length (clue_at (puzzle ws) l) = ne ∙ R.count_is in
      let low : line_size * l ≤ length table = omega (arith, R.low) in
      let fine : (j : ℕ) → j < l → length (laid_words (puzzle ws) j) ≤ line_size = λ j g. omega (arith, line_size_lem (puzzle ws) j, (line_fine ws S j (omega arith)).few) in
      let e : l + 1 ≡ suc l = omega arith in
      record {
        within = omega arith;
        stands = record {
          at_is = ae ∙ rw (we, m, L.stands.at_is) (sym (begin_next (puzzle ws) l h));
          at_most = omega (arith, R, cond_most (eqb (l + 1) wide));
          first_is = rw (e, ve, L.stands.first_is);
          first_most = omega (arith, R, laying_vars cells t);
        };
        fit = λ j g. elim (dec_lt j l) [ yes k ↦ L.fit j k | no k ↦ let q : j ≡ l = omega arith in rw q f ];
        laid = λ j g. elim (dec_lt j l) [
          | yes k ↦ wrote_before low w (line_size * j) (length (laid_words (puzzle ws) j)) (omega (arith, fine j k)) ∙ L.laid j k
          | no k ↦ let q : j ≡ l = omega arith in rw q (wrote_there low w)
        ];
      }

module _ (ws : List ℕ) {table : List ℕ} {l at first : ℕ} (L : LayingLines (puzzle ws) table l at first) (left : lines (puzzle ws) ≤ l) where
  h : lines (puzzle ws) ≡ l
  h = omega (arith, L.within)

  pub laying_done : accepted at ≡ and_then (spaces (puzzle ws)) (accepted (cells_at (puzzle ws)))
  laying_done = rw (spaces_fit (puzzle ws) (λ j g. L.fit j (omega arith)), L.stands.at_is, ← h, begin_cells (puzzle ws))

  pub laying_laid : Laid (puzzle ws) table
  laying_laid j g = L.laid j (omega arith)
