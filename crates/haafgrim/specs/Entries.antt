-- What each C entry promises: of its input and the buffer that it is lent, the number, the place and the buffer that it gives back.
use Rattle.std.specs.Prelude.{◌≡◌, List, ℕ, ℤ}
use Rattle.refusals.specs.Verdict.{and_then, passed}
use Rattle.refusals.specs.Outcome.{Outcome}
use Rattle.bits.specs.Bits.{powers, joined}
use Rattle.lines.specs.Calls.{line_checks, line_words, clue_checks, starts_words, ranges_words}
use Rattle.puzzles.specs.Checks.{puzzle, puzzle_checks}
use Rattle.counts.specs.Families.{buffer, counts_of}
use Rattle.sections.specs.Sections.{clause_words, section_words}
use Rattle.truth.specs.Truth.{value}
use Rattle.grids.specs.Grid.{size_checks, grid_checks, transposed, grid_words}
use Rattle.pictures.specs.Pictures.{shown, blocking}
use Rattle.checker.specs.Models.{model_checks}
use Rattle.probes.specs.Probes.{probe_checks, probes}
use Rattle.implied.specs.Implications.{implications}
use Rattle.formulas.specs.Walk.{word_checks, clauses_of}
use Rattle.dimacs.specs.Text.{text}

-- a number, a place, and the buffer afterwards
abbrev pub Promise : Type 0 → Type 1
Promise A = ℕ → ℕ → List A → Type 0

abbrev pub TwoPowers : ℕ → List ℕ → Promise ℕ
TwoPowers mask out = Outcome passed (powers mask) out

-- the mask alone
abbrev pub FromTwoPowers : List ℕ → ℕ → Type 0
FromTwoPowers ws mask = mask ≡ joined ws

abbrev pub ReadLine : List ℕ → List ℕ → Promise ℕ
ReadLine line out = Outcome (line_checks line) (line_words line) out

abbrev pub Starts : ℕ → List ℕ → List ℕ → Promise ℕ
Starts n clue out = Outcome (clue_checks n clue) (starts_words n clue) out

abbrev pub ColorRanges : ℕ → List ℕ → List ℕ → Promise ℕ
ColorRanges n clue out = Outcome (clue_checks n clue) (ranges_words n clue) out

abbrev pub ReadGrid : ℕ → ℕ → List ℕ → List ℕ → Promise ℕ
ReadGrid w h grid out = Outcome (grid_checks w h grid) (grid_words w h grid) out

abbrev pub Transpose : ℕ → ℕ → List ℕ → List ℕ → Promise ℕ
Transpose w h grid out = Outcome (size_checks w h grid) (transposed w h grid) out

abbrev pub Clauses : List ℕ → List ℤ → Promise ℤ
Clauses ws out = Outcome (puzzle_checks ws) (buffer (puzzle ws)) out

abbrev pub Counts : List ℕ → List ℕ → Promise ℕ
Counts ws out = Outcome (puzzle_checks ws) (counts_of (puzzle ws)) out

abbrev pub CheckModel : List ℕ → List ℕ → List ℕ → Promise ℕ
CheckModel ws model out = Outcome (and_then (puzzle_checks ws) (model_checks (puzzle ws) model)) (shown (puzzle ws) (value model)) out

abbrev pub Blocking : List ℕ → List ℕ → List ℤ → Promise ℤ
Blocking ws model out = Outcome (and_then (puzzle_checks ws) (model_checks (puzzle ws) model)) (clause_words (blocking (puzzle ws) (value model))) out

abbrev pub Probes : List ℕ → List ℕ → List ℤ → Promise ℤ
Probes ws probe out = Outcome (and_then (puzzle_checks ws) (probe_checks (puzzle ws) probe)) (section_words (implications (puzzle ws) (probes (puzzle ws) probe))) out

abbrev pub Dimacs : ℕ → ℕ → List ℤ → List ℕ → Promise ℕ
Dimacs variables sections ws out = Outcome (word_checks variables sections ws) (text variables (clauses_of variables sections ws)) out

-- a promise that leaves one answer: two that it allows are equal in number, place and every word of the buffer
abbrev pub Determined : {A : Type 0} → Promise A → Type 0
Determined {A} promise = (n p m q : ℕ) (out out' : List A) → promise n p out → promise m q out' → (n ≡ m) × (p ≡ q) × (out ≡ out')

-- all thirteen are determined
pub record EachDetermined : Type 0 where
  pub two_powers : (mask : ℕ) (out : List ℕ) → Determined (TwoPowers mask out)
  pub from_two_powers : (ws : List ℕ) (n m : ℕ) → FromTwoPowers ws n → FromTwoPowers ws m → n ≡ m
  pub read_line : (line out : List ℕ) → Determined (ReadLine line out)
  pub starts : (n : ℕ) (clue out : List ℕ) → Determined (Starts n clue out)
  pub color_ranges : (n : ℕ) (clue out : List ℕ) → Determined (ColorRanges n clue out)
  pub read_grid : (w h : ℕ) (grid out : List ℕ) → Determined (ReadGrid w h grid out)
  pub transpose : (w h : ℕ) (grid out : List ℕ) → Determined (Transpose w h grid out)
  pub clauses : (ws : List ℕ) (out : List ℤ) → Determined (Clauses ws out)
  pub counts : (ws out : List ℕ) → Determined (Counts ws out)
  pub check_model : (ws model out : List ℕ) → Determined (CheckModel ws model out)
  pub block : (ws model : List ℕ) (out : List ℤ) → Determined (Blocking ws model out)
  pub probe : (ws probe : List ℕ) (out : List ℤ) → Determined (Probes ws probe out)
  pub dimacs : (variables sections : ℕ) (ws : List ℤ) (out : List ℕ) → Determined (Dimacs variables sections ws out)
