-- Document 01, "Port order": the base program, from the bytes that it reads to the bytes that it writes.
use Rattle.std.specs.Prelude.{not, List, [], ◌∷◌, ◌++◌, ℕ, ◌+◌, ◌*◌, ◌/◌, ◌%◌, eqb, ltb, length, get_or}
use Rattle.lists.specs.Each.{tab}
use Rattle.refusals.specs.Verdict.{Checks, accepted, refused, passed, refuse, and_then}
use Rattle.refusals.specs.Outcome.{fits}
use Rattle.puzzles.specs.Puzzle.{Puzzle}
use Rattle.puzzles.specs.Checks.{puzzle, puzzle_checks}
use Rattle.numbering.specs.Variables.{variables}
use Rattle.counts.specs.Families.{clauses, buffer}
use Rattle.dimacs.specs.Text.{digits, space, newline, text}

-- each word is four bytes, low byte first
unfoldable pub words_of : List ℕ → List ℕ
words_of bytes = tab (length bytes / 4) (λ i.
    get_or bytes (4 * i) 0 + 256 * get_or bytes (4 * i + 1) 0 + 65536 * get_or bytes (4 * i + 2) 0 + 16777216 * get_or bytes (4 * i + 3) 0)

-- 23: over 65,536 bytes, else not whole words
abbrev pub input_checks : List ℕ → Checks
input_checks bytes = refuse (ltb 65536 (length bytes)) 23 65536 (refuse (not (eqb (length bytes % 4) 0)) 23 (length bytes) passed)

-- the DIMACS text of a puzzle
abbrev pub text_of : Puzzle → List ℕ
text_of z = text (variables z) (clauses z)

-- the puzzle, then 12 by 16,384 clause words
abbrev pub words_checks : List ℕ → Checks
words_checks ws = and_then (puzzle_checks ws) (fits 16384 (length (buffer (puzzle ws))))

-- 23 before
abbrev pub bytes_checks : List ℕ → Checks
bytes_checks bytes = and_then (input_checks bytes) (words_checks (words_of bytes))

-- and 12 by 65,536 DIMACS bytes after
unfoldable pub program_checks : List ℕ → Checks
program_checks bytes = and_then (bytes_checks bytes) (fits 65536 (length (text_of (puzzle (words_of bytes)))))

-- `refused N at P` and a newline
abbrev pub refused_word : List ℕ
refused_word = 114 ∷ 101 ∷ 102 ∷ 117 ∷ 115 ∷ 101 ∷ 100 ∷ space ∷ []

abbrev pub at_word : List ℕ
at_word = space ∷ 97 ∷ 116 ∷ space ∷ []

unfoldable pub refused_text : ℕ → ℕ → List ℕ
refused_text k p = refused_word ++ (digits k ++ (at_word ++ (digits p ++ (newline ∷ []))))

unfoldable pub printed : Checks → List ℕ → List ℕ
printed (accepted u) t = t
printed (refused k p) t = refused_text k p

-- what the program writes, of what it reads
abbrev pub encoded : List ℕ → List ℕ
encoded bytes = printed (program_checks bytes) (text_of (puzzle (words_of bytes)))
