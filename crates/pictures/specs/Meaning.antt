-- What each of document 01's ten families says by itself, in the words of its table.
-- Condition 3 alone would not tell whether 9 is there, since it follows from 5 and 7 (`NineFollows`).
use Rattle.std.specs.Prelude.{◌≡◌, ◌↔◌, Bool, true, false, List, [], ℕ, ◌+◌, ◌-◌, ◌<◌, length, get_or}
use Rattle.sections.specs.Sections.{Clause}
use Rattle.lines.specs.Clue.{gap}
use Rattle.lines.specs.Arrangement.{at, covers, clash}
use Rattle.puzzles.specs.Puzzle.{Puzzle, width, height}
use Rattle.bits.specs.Bits.{bit, solved}
use Rattle.numbering.specs.Variables.{Line, line_at, many, placed_at, variable, hues, hue, cell_variable}
use Rattle.cells.specs.Cells.{mask_at}
use Rattle.counts.specs.Families.{families}
use Rattle.truth.specs.Truth.{Assignment, Satisfies}

abbrev pub NotBoth : Assignment → ℕ → ℕ → Type 0
NotBoth β u v = β u ≡ true → β v ≡ true → ⊥

-- ---- of a line

-- 1, 2: each block has some position
abbrev pub SomePosition : Assignment → Line → Type 0
SomePosition β L = (b : ℕ) → b < many L → (i : ℕ) × (i < L.positions) × (β (variable L b i) ≡ true)

-- 3, 4: no block has two
abbrev pub OnePosition : Assignment → Line → Type 0
OnePosition β L = (b i j : ℕ) → b < many L → i < j → j < L.positions → NotBoth β (variable L b i) (variable L b j)

-- 5, 6: no two blocks are in conflict
abbrev pub NoConflict : Assignment → Line → Type 0
NoConflict β L =
    (a b i j : ℕ) → a < b → b < many L → i < L.positions → j < L.positions
    → clash gap (placed_at L a i) (placed_at L b j) ≡ true → NotBoth β (variable L a i) (variable L b j)

-- block b has colour c, and at its position i it covers the cell t
pub record Covers (L : Line) (c t b i : ℕ) : Type 0 where
  pub block_in : b < many L
  pub position_in : i < L.positions
  pub color_is : (at L.runs b).color ≡ c
  pub covered : covers (placed_at L b i) t ≡ true

-- 7: where the cell variable v is true, so is a position of its colour that covers the cell
abbrev pub IsCovered : Assignment → Line → ℕ → ℕ → ℕ → Type 0
IsCovered β L c t v = β v ≡ true → (b : ℕ) × (i : ℕ) × Covers L c t b i × (β (variable L b i) ≡ true)

-- 8: where a position of its colour that covers the cell is true, so is v
abbrev pub IsColored : Assignment → Line → ℕ → ℕ → ℕ → Type 0
IsColored β L c t v = (b i : ℕ) → Covers L c t b i → β (variable L b i) ≡ true → β v ≡ true

-- 10, of a mask and the variable of colour c: a solved colour's is true, in a solved blank each is false, and in an unsolved cell an excluded colour's
pub record MaskSays (mask c : ℕ) (told : Bool) : Type 0 where
  pub solved_color : solved mask ≡ true → bit mask 0 ≡ false → bit mask c ≡ true → told ≡ true
  pub solved_blank : solved mask ≡ true → bit mask 0 ≡ true → told ≡ false
  pub excluded : solved mask ≡ false → bit mask c ≡ false → told ≡ false

-- ---- of the puzzle

module _ (z : Puzzle) where
  abbrev pub EachColumn : (Line → Type 0) → Type 0
  EachColumn P = (x : ℕ) → x < width z → P (line_at z x)

  abbrev pub EachRow : (Line → Type 0) → Type 0
  EachRow P = (y : ℕ) → y < height z → P (line_at z (width z + y))

  -- per cell, colour: of the column, and of the row
  abbrev pub EachCell : (Line → ℕ → ℕ → ℕ → Type 0) → Type 0
  EachCell P =
      (x y r : ℕ) → x < width z → y < height z → r < hues z
      → P (line_at z x) (hue z r) y (cell_variable z x y r) × P (line_at z (width z + y)) (hue z r) x (cell_variable z x y r)

  -- 9: no cell has two colours
  abbrev pub OneColor : Assignment → Type 0
  OneColor β = (x y r s : ℕ) → x < width z → y < height z → r < s → s < hues z → NotBoth β (cell_variable z x y r) (cell_variable z x y s)

  -- 10: per cell, colour
  abbrev pub Units : Assignment → Type 0
  Units β = (x y r : ℕ) → x < width z → y < height z → r < hues z → MaskSays (mask_at z x y) (hue z r) (β (cell_variable z x y r))

  -- the clauses of a section, numbered as in 01's table
  abbrev pub section : ℕ → List Clause
  section n = get_or (families z) (n - 1) []

  -- each by itself: its clauses are true exactly where that holds
  pub record Meanings (β : Assignment) : Type 0 where
    pub sections : length (families z) ≡ 10
    pub one : Satisfies β (section 1) ↔ EachColumn (SomePosition β)
    pub two : Satisfies β (section 2) ↔ EachRow (SomePosition β)
    pub three : Satisfies β (section 3) ↔ EachColumn (OnePosition β)
    pub four : Satisfies β (section 4) ↔ EachRow (OnePosition β)
    pub five : Satisfies β (section 5) ↔ EachColumn (NoConflict β)
    pub six : Satisfies β (section 6) ↔ EachRow (NoConflict β)
    pub seven : Satisfies β (section 7) ↔ EachCell (IsCovered β)
    pub eight : Satisfies β (section 8) ↔ EachCell (IsColored β)
    pub nine : Satisfies β (section 9) ↔ OneColor β
    pub ten : Satisfies β (section 10) ↔ Units β

-- 9 follows from 5 and 7
abbrev pub NineFollows : Type 0
NineFollows = (z : Puzzle) (β : Assignment) → Satisfies β (section z 5) → Satisfies β (section z 7) → Satisfies β (section z 9)
