-- What the call answers, by the board that its puzzle has.
use mathlib.Core.Path.{◌≡◌, refl, ap}
use mathlib.Core.List.{List}
use Prim.Native.Nat.{ℕ, ◌+◌}
use native.Mathlib.Omega.{arith}
use lib.IntN.{ℤ}
use lib.ListN.{length}
use Rattle.std.specs.Prelude.{Result}
use Rattle.refusals.specs.Verdict.{Checks, accepted, refused, passed, and_then}
use Rattle.refusals.specs.Outcome.{Answers}
use Rattle.refusals.specs.declared.Refusal.{Refusal}
use Rattle.sections.specs.Sections.{Clause, clauses_words, section_words}
use Rattle.puzzles.specs.Puzzle.{Puzzle, width, height}
use Rattle.puzzles.specs.Checks.{colors, puzzle, puzzle_checks}
use Rattle.puzzles.proofs.Accepting.{accepted_is}
use Rattle.boards.specs.Reading.{Held}
use Rattle.boards.specs.declared.board.Board.{Board}
use Rattle.numbering.specs.Variables.{palette}
use Rattle.probes.specs.Probes.{probes, probe_checks, checks_on}
use Rattle.implied.specs.Implications.{implications}
use Rattle.implied.specs.ByWords.{of_probes}
use Rattle.probes.proofs.AcceptedProbes.{accepted_probes}
use Rattle.implications.proofs.ProbeClauses.{probes_are}

pub section_needs : (cs : List Clause) {n : ℕ} → n ≡ length (clauses_words cs) → 1 + n ≡ length (section_words cs)
unfolding section_words
section_needs cs e = omega arith

-- what would be written matters only where the checks accept
answers_same : {A : Type 0} {ws us out out' : List A} {a : Result ℕ Refusal} (v : Checks) → (passed ≡ v → ws ≡ us) → Answers v ws out a out' → Answers v us out a out'
answers_same (accepted u) e x = rw (e refl) at x
answers_same (refused k p) e x = record { answer_is = x.answer_is; out_is = x.out_is }

by_puzzle : (b : Board) (z : Puzzle) (us : List ℕ) (w h K : ℕ) → w ≡ width z → h ≡ height z → K ≡ colors z → {out out' : List ℤ} {a : Result ℕ Refusal}
    → Answers (checks_on w h K us) (section_words (of_probes b (palette K) us)) out a out' → Answers (probe_checks z us) (section_words (of_probes b (palette (colors z)) us)) out a out'
by_puzzle b z us w h K p q r x = rw (p, q, r) at x

-- from the board to the puzzle
pub answers_probes : {ws table : List ℕ} {b : Board} → Held ws table b → (us : List ℕ) {out out' : List ℤ} {a : Result ℕ Refusal}
    → Answers (checks_on b.width b.height b.colors us) (section_words (of_probes b (palette b.colors) us)) out a out'
    → Answers (and_then (puzzle_checks ws) (probe_checks (puzzle ws) us)) (section_words (implications (puzzle ws) (probes (puzzle ws) us))) out a out'
answers_probes {ws} {table} {b} H us x =
    let z = puzzle ws in
    let S = H.stands in
    let good = (accepted_is 0 ws H.checked).good in
    rw (← H.checked)
    (answers_same (probe_checks z us) (λ e. ap section_words (probes_are (record { good = good; stands = S; hues_are = refl }) us (accepted_probes (width z) (height z) (colors z) us e)))
    (by_puzzle b z us b.width b.height b.colors S.width_is S.height_is S.colors_is x))
