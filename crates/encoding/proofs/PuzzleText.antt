-- From a puzzle's words to the text: its refusals, 12 by clause words, and the call `dimacs` on the clause buffer, which is accepted.
use mathlib.Core.Path.{◌≡◌, refl, ◌∙◌}
use mathlib.Core.List.{List}
use Prim.Native.Nat.{ℕ, ◌≤◌}
use native.Mathlib.Omega.{arith}
use lib.IntN.{ℤ}
use lib.ListN.{length, take, get_or}
use borrow.Author.Tests.{le-ltb}
use Rattle.std.specs.Prelude.{Result, Ok, Err}
use Rattle.lists.proofs.Writing.{wrote_at}
use Rattle.refusals.specs.Verdict.{passed}
use Rattle.refusals.specs.Told.{refusal}
use Rattle.refusals.specs.Outcome.{Answers}
use Rattle.refusals.specs.declared.Refusal.{Refusal}
use Rattle.refusals.proofs.Answering.{handed_up, answers_checked}
use Rattle.puzzles.specs.Checks.{puzzle, puzzle_checks}
use Rattle.puzzles.proofs.Accepting.{accepted_is}
use Rattle.numbering.specs.Variables.{variables}
use Rattle.counts.specs.Families.{families, buffer, counts_of}
use Rattle.clauses.proofs.BufferWords.{buffer_accepted, buffer_holds}
use Rattle.formulas.specs.Walk.{word_checks, clauses_of}
use Rattle.dimacs.specs.Text.{text}
use Rattle.encoding.specs.Encode.{text_of, words_checks}
use Rattle.lists.proofs.Fronts.{front_size, front_is}
use Rattle.refusals.proofs.Called.{answers_checks, refused_by, accepted_checks, accepted_room, accepted_wrote}

module _ (ws : List ℕ) where
  -- ---- the call `counts`

  thirteen : length (counts_of (puzzle ws)) ≡ 13
  unfolding counts_of families
  thirteen = refl

  module _ {out out' : List ℕ} (room : length out ≡ 13) where
    pub counts_refused : (why : Refusal) → Answers (puzzle_checks ws) (counts_of (puzzle ws)) out (Err why) out' → refusal why ≡ words_checks ws
    counts_refused why given = handed_up why (refused_by given (omega (arith, thirteen))) _

    pub counts_variables : {used : ℕ} → Answers (puzzle_checks ws) (counts_of (puzzle ws)) out (Ok used) out' → get_or out' 0 0 ≡ variables (puzzle ws)
    unfolding counts_of
    counts_variables given = wrote_at (omega arith) (accepted_wrote given) 0 0 (omega (arith, thirteen))

  -- ---- the call `clauses`

  module _ {buf buf' : List ℤ} (room : length buf ≡ 16384) where
    pub clauses_told : (why : Refusal) → Answers (puzzle_checks ws) (buffer (puzzle ws)) buf (Err why) buf' → refusal why ≡ words_checks ws
    clauses_told why given = answers_checks given ∙ rw room

    module _ {used : ℕ} (given : Answers (puzzle_checks ws) (buffer (puzzle ws)) buf (Ok used) buf') where
      few : length (buffer (puzzle ws)) ≤ 16384
      few = rw room at (accepted_room given)

      pub clauses_within : used ≤ 16384
      clauses_within = omega (arith, front_size (accepted_wrote given), few)

      -- ---- and the call `dimacs` of its words

      pub text_answers : {v : ℕ} → v ≡ variables (puzzle ws) → {out out' : List ℕ} {b : Result ℕ Refusal}
          → Answers (word_checks v 10 (take used buf')) (text v (clauses_of v 10 (take used buf'))) out b out' → Answers (words_checks ws) (text_of (puzzle ws)) out b out'
      text_answers v-is x =
          let z = puzzle ws in
          let e = accepted_checks given in
          let G = (accepted_is 0 ws e).good in
          let y : Answers passed (text_of z) _ _ _ = rw (v-is, front_is (accepted_wrote given), ← buffer_accepted z G, buffer_holds z G) at x in
          let c : passed ≡ words_checks ws = rw (← e, le-ltb _ _ few) in
          answers_checked _ _ c y
