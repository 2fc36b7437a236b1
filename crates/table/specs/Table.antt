-- Document 01, "Small puzzles done by hand": rows P in one table, and one statement over it.
use Rattle.std.specs.Prelude.{◌≡◌, Bool, true, false, List, [], ◌∷◌, ℕ, ℤ, length}
use Rattle.lists.specs.Each.{tab}
use Rattle.refusals.specs.Verdict.{passed}
use Rattle.literals.specs.Literals.{positive, negative}
use Rattle.lines.specs.Clue.{gap, conflict}
use Rattle.puzzles.specs.Checks.{puzzle, puzzle_checks}
use Rattle.numbering.specs.Variables.{variables}
use Rattle.counts.specs.Families.{clauses, buffer}
use Rattle.pictures.specs.Examples.{p8, p10, p11, p11_model, p12, p12_model}
use Rattle.haafgrim.specs.Entries.{ReadLine, Starts, ColorRanges, Clauses, Blocking}

-- the word w, n times
abbrev pub filled : {A : Type 0} → ℕ → A → List A
filled n w = tab n (λ _. w)

-- a case with its answer
pub data Row : Type 0 where
  -- a line, and the words that are read from it
  line : List ℕ → List ℕ → Row
  -- a line's length, a clue's words, and p, least space and starts
  start : ℕ → List ℕ → List ℕ → Row
  -- the same, and the ranges of the first colours
  ranges : ℕ → List ℕ → List ℕ → Row
  -- the end and the colour of a block, the start and the colour of a later one, and whether they are in conflict
  meeting : ℕ → ℕ → ℕ → ℕ → Bool → Row
  -- a puzzle's words, and its clause buffer
  buffered : List ℕ → List ℤ → Row
  -- a puzzle's words, a room that is too short, and the length needed
  short : List ℕ → ℕ → ℕ → Row
  -- a puzzle's words, and how many variables, clauses and words there are
  sized : List ℕ → ℕ → ℕ → ℕ → Row
  -- a puzzle's words, a model, and the words of its blocking clause
  blocked : List ℕ → List ℕ → List ℤ → Row

-- what a row says: of calls, in the words of the entries' promises; the buffers lent are full of sevens, and of the length needed but where it is short
abbrev pub Holds : Row → Type 0
Holds (line cells ws) = ReadLine cells (filled (length ws) 7) 0 (length ws) ws
Holds (start n clue ws) = Starts n clue (filled (length ws) 7) 0 (length ws) ws
Holds (ranges n clue ws) = ColorRanges n clue (filled (length ws) 7) 0 (length ws) ws
Holds (meeting e c s d b) = conflict gap c e d s ≡ b
Holds (buffered w ws) = Clauses w (filled (length ws) (positive 7)) 0 (length ws) ws
Holds (short w room need) = Clauses w (filled room (positive 7)) 12 need (filled room (positive 7))
Holds (sized w v c n) = (passed ≡ puzzle_checks w) × (variables (puzzle w) ≡ v) × (length (clauses (puzzle w)) ≡ c) × (length (buffer (puzzle w)) ≡ n)
Holds (blocked w model ws) = Blocking w model (filled (length ws) (positive 7)) 0 (length ws) ws

-- every row of a list holds
unfoldable pub AllHold : List Row → Type 0
AllHold [] = Unit
AllHold (r ∷ rs) = Holds r × AllHold rs

-- P1; P3, P4 on the shortest line; P5; P6, P7; P8, P9; P10; P11, P12
unfoldable pub table : List Row
table =
    line (0 ∷ 0 ∷ 1 ∷ 1 ∷ 0 ∷ 2 ∷ []) (2 ∷ 1 ∷ 1 ∷ 2 ∷ [])
    ∷ start 3 (1 ∷ 1 ∷ 1 ∷ 1 ∷ []) (1 ∷ 3 ∷ 0 ∷ 2 ∷ [])
    ∷ start 3 (1 ∷ 1 ∷ 1 ∷ 2 ∷ 1 ∷ 1 ∷ []) (1 ∷ 3 ∷ 0 ∷ 1 ∷ 2 ∷ [])
    ∷ start 4 (2 ∷ 1 ∷ 1 ∷ 2 ∷ []) (2 ∷ 3 ∷ 0 ∷ 2 ∷ [])
    ∷ ranges 4 (2 ∷ 1 ∷ 1 ∷ 2 ∷ []) (0 ∷ 3 ∷ 2 ∷ 4 ∷ filled 58 0)
    ∷ meeting 1 1 1 1 true
    ∷ meeting 1 1 1 2 false
    ∷ buffered p8
    (positive 1 ∷ positive 1 ∷ positive 1 ∷ positive 1 ∷ positive 1 ∷ positive 2 ∷ positive 0 ∷ positive 0 ∷ positive 0 ∷ positive 0
    ∷ positive 2 ∷ positive 2 ∷ positive 1 ∷ negative 3 ∷ positive 2 ∷ positive 2 ∷ negative 3
    ∷ positive 2 ∷ positive 2 ∷ negative 1 ∷ positive 3 ∷ positive 2 ∷ negative 2 ∷ positive 3 ∷ positive 0 ∷ positive 0 ∷ [])
    ∷ short p8 25 26
    ∷ sized p10 5 10 38
    ∷ blocked p11 p11_model (positive 2 ∷ negative 9 ∷ negative 12 ∷ [])
    ∷ blocked p12 p12_model (positive 0 ∷ [])
    ∷ []
