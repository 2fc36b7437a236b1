-- The clause buffer is taken by `dimacs`, and its text is that of the clauses.
use mathlib.Core.Path.{◌≡◌, refl}
use mathlib.Core.List.{List}
use Prim.Native.Nat.{ℕ, ◌≤◌}
use lib.IntN.{ℤ}
use lib.ListN.{length, take}
use lib.Seq.{take_at}
use borrow.Author.Tests.{le-ltb}
use Rattle.lists.specs.Wrote.{over}
use Rattle.refusals.specs.Verdict.{passed}
use Rattle.refusals.specs.Outcome.{Outcome}
use Rattle.puzzles.specs.Checks.{puzzle, puzzle_checks}
use Rattle.puzzles.proofs.Accepting.{accepted_is}
use Rattle.numbering.specs.Variables.{variables}
use Rattle.counts.specs.Families.{clauses, buffer}
use Rattle.clauses.proofs.BufferWords.{buffer_accepted, buffer_holds}
use Rattle.dimacs.specs.Text.{text}
use Rattle.haafgrim.specs.Entries.{Clauses, Dimacs}
use Rattle.haafgrim.specs.BufferText.{BufferTexts}

module _ (ws : List ℕ) (e : passed ≡ puzzle_checks ws) where
  front : (buf buf' : List ℤ) (n p : ℕ) → length (buffer (puzzle ws)) ≤ length buf → Clauses ws buf n p buf' → (n ≡ 0) × (take p buf' ≡ buffer (puzzle ws))
  unfolding over
  front buf buf' n p room r =
      let p-is : p ≡ length (buffer (puzzle ws)) = rw (← e, le-ltb _ _ room) at r.place_is in
      let buf-is : buf' ≡ over (buffer (puzzle ws)) buf = rw (← e, le-ltb _ _ room) at r.out_is in
      (rw (← e, le-ltb _ _ room) at r.number_is, rw (p-is, buf-is) (take_at (buffer (puzzle ws)) _ (length (buffer (puzzle ws))) refl))

  written : (out out' : List ℕ) (n p : ℕ) → Dimacs (variables (puzzle ws)) 10 (buffer (puzzle ws)) out n p out' → Outcome passed (text (variables (puzzle ws)) (clauses (puzzle ws))) out n p out'
  written out out' n p r =
      let G = (accepted_is 0 ws e).good in
      rw (← buffer_accepted (puzzle ws) G, buffer_holds (puzzle ws) G) at r

pub buffer_text : BufferTexts
buffer_text ws e = record { buffer_is = front ws e; text_is = written ws e }
