-- From the bytes of the input to the answer of the program, and from that to what it writes.
use mathlib.Core.Path.{◌≡◌, ◌∙◌}
use mathlib.Core.List.{List}
use Prim.Native.Nat.{ℕ, ◌/◌, ◌≤◌}
use native.Mathlib.Omega.{arith}
use lib.Dec.{ltb}
use lib.ListN.{length}
use borrow.Author.Tests.{ltb-false}
use Rattle.std.specs.Prelude.{Result, Ok, Err}
use Rattle.lists.specs.Wrote.{Wrote}
use Rattle.refusals.specs.Verdict.{passed, number, place}
use Rattle.refusals.specs.Told as R
use Rattle.refusals.specs.Outcome.{Answers}
use Rattle.refusals.specs.declared.Refusal.{Refusal}
use Rattle.refusals.proofs.Answering.{refusal_is, handed_up, refuse_accepted}
use Rattle.puzzles.specs.Checks.{puzzle}
use Rattle.encoding.specs.Encode.{words_of, input_checks, text_of, words_checks, bytes_checks, program_checks, refused_text, printed, encoded}
use Rattle.refusals.proofs.Called.{answers_checks, refused_kept, accepted_room, accepted_wrote}

-- ---- the bytes

module _ (bytes : List ℕ) where
  pub input_refused : (why : Refusal) → R.refusal why ≡ input_checks bytes → R.refusal why ≡ bytes_checks bytes
  input_refused why e = handed_up why e _

  module _ (input_accepted : passed ≡ input_checks bytes) where
    -- there is room for their words
    pub input_few : length bytes / 4 ≤ 16384
    input_few = let h : length bytes ≤ 65536 = ltb-false _ _ (refuse_accepted (ltb 65536 (length bytes)) _ _ _ input_accepted).0 in omega arith

    pub input_answers : {ws : List ℕ} → ws ≡ words_of bytes → {out out' : List ℕ} {b : Result ℕ Refusal}
        → Answers (words_checks ws) (text_of (puzzle ws)) out b out' → Answers (bytes_checks bytes) (text_of (puzzle (words_of bytes))) out b out'
    input_answers w x =
        let c : words_checks (words_of bytes) ≡ bytes_checks bytes = rw (← input_accepted) in
        rw (← c) (rw w at x)

  -- ---- what is told

  abbrev of_text : List ℕ
  of_text = text_of (puzzle (words_of bytes))

  module _ {out out' : List ℕ} (room : 65536 ≡ length out) where
    module _ {used : ℕ} (given : Answers (bytes_checks bytes) of_text out (Ok used) out') where
      program_passes : passed ≡ program_checks bytes
      unfolding program_checks
      program_passes = answers_checks given ∙ rw (← room)

      pub text_told : Wrote (encoded bytes) out 0 out' used
      unfolding printed
      text_told = rw (← program_passes) (accepted_wrote given)

      pub text_within : used ≤ 65536
      text_within = omega (arith, accepted_room given, (accepted_wrote given).next_is)

    module _ (why : Refusal) (given : Answers (bytes_checks bytes) of_text out (Err why) out') {k p : ℕ} (k-is : k ≡ number (R.refusal why)) (p-is : p ≡ place (R.refusal why)) where
      program_is : R.refusal why ≡ program_checks bytes
      unfolding program_checks
      program_is = answers_checks given ∙ rw (← room)

      pub refusal_told : {out'' : List ℕ} {n : ℕ} → Wrote (refused_text k p) out' 0 out'' n → Wrote (encoded bytes) out 0 out'' n
      unfolding printed
      refusal_told w =
          let f : encoded bytes ≡ refused_text k p = rw (← program_is, k-is, p-is, refusal_is why) in
          rw (f, ← refused_kept given) w
