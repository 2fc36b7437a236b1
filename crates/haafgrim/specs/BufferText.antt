-- From a puzzle to its text: of V, ten sections and the words that `clauses` writes, `dimacs` writes the text of the puzzle's clauses.
use Rattle.std.specs.Prelude.{◌≡◌, List, ℕ, ◌≤◌, ℤ, length, take}
use Rattle.refusals.specs.Verdict.{passed}
use Rattle.refusals.specs.Outcome.{Outcome}
use Rattle.puzzles.specs.Checks.{puzzle, puzzle_checks}
use Rattle.numbering.specs.Variables.{variables}
use Rattle.counts.specs.Families.{clauses, buffer}
use Rattle.dimacs.specs.Text.{text}
use Rattle.haafgrim.specs.Entries.{Clauses, Dimacs}

pub record BufferText (ws : List ℕ) : Type 0 where
  -- with room, `clauses` accepts, and its place many words at the front are the buffer
  pub buffer_is : (buf buf' : List ℤ) (n p : ℕ) → length (buffer (puzzle ws)) ≤ length buf → Clauses ws buf n p buf' → (n ≡ 0) × (take p buf' ≡ buffer (puzzle ws))
  -- of which `dimacs` refuses nothing but a buffer that is too short for the text
  pub text_is : (out out' : List ℕ) (n p : ℕ) → Dimacs (variables (puzzle ws)) 10 (buffer (puzzle ws)) out n p out' → Outcome passed (text (variables (puzzle ws)) (clauses (puzzle ws))) out n p out'

-- of every puzzle whose words are accepted
abbrev pub BufferTexts : Type 0
BufferTexts = (ws : List ℕ) → passed ≡ puzzle_checks ws → BufferText ws
