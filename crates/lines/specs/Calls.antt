-- Document 01: what the calls `read_line`, `starts` and `color_ranges` refuse, in its order, and what they write.
use Rattle.std.specs.Prelude.{Bool, ◌||◌, List, [], ◌∷◌, map, ℕ, ◌+◌, ◌-◌, ◌/◌, ◌%◌, length, eqb, ltb}
use Rattle.lists.specs.Each.{each}
use Rattle.refusals.specs.Verdict.{Checks, passed, refuse, and_then, first_off}
use Rattle.lines.specs.Clue.{Block, words, blocks, gap, packed, starts, min_space, positions, of_color, range}
use Rattle.lines.specs.Line.{runs}

-- a width, height or line length that is 0 or over 64
abbrev pub off_size : ℕ → Bool
off_size n = eqb n 0 || ltb 64 n

-- a colour that is not 1 to 31
abbrev pub off_color : ℕ → Bool
off_color c = eqb c 0 || ltb 31 c

-- blocks as they stand in a clue's words
abbrev pub pairs : List Block → List (List ℕ)
pairs bs = map (λ b. b.size ∷ b.color ∷ []) bs

-- 4 and 5 by word, from word i on
unfoldable pub block_checks : ℕ → List ℕ → Checks
block_checks i [] = passed
block_checks i (size ∷ []) = passed
block_checks i (size ∷ color ∷ ws) = refuse (eqb size 0) 4 i (refuse (off_color color) 5 (i + 1) (block_checks (i + 2) ws))

-- 2; 1 for an odd number of words; 3; 4 and 5 by word; 6
unfoldable pub clue_checks : ℕ → List ℕ → Checks
clue_checks n clue =
    refuse (off_size n) 2 0
    (refuse (eqb (length clue % 2) 1) 1 (length clue)
    (refuse (ltb 64 (length clue / 2)) 3 0
    (and_then (block_checks 0 clue)
    (refuse (ltb n (min_space gap (blocks clue))) 6 0
    passed))))

-- p, least space, then the starts
unfoldable pub starts_words : ℕ → List ℕ → List ℕ
starts_words n clue = positions gap n (blocks clue) ∷ min_space gap (blocks clue) ∷ starts (packed gap (blocks clue))

-- a pair for colours 1 to 31, zeros where absent
unfoldable pub ranges_words : ℕ → List ℕ → List ℕ
ranges_words n clue = each 31 (λ k. range (positions gap n (blocks clue) - 1) (of_color (k + 1) (packed gap (blocks clue))))

-- 18 at the first byte over 31
abbrev pub byte_checks : List ℕ → Checks
byte_checks line = first_off (ltb 31) 18 0 line

-- 2, 18
unfoldable pub line_checks : List ℕ → Checks
line_checks line = refuse (off_size (length line)) 2 0 (byte_checks line)

-- size and colour pairs
unfoldable pub line_words : List ℕ → List ℕ
line_words line = words (runs line)
