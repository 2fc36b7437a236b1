-- Rows of document 01's table of small puzzles, and one of two colours: their words, grids for them, and what holds of them.
use Rattle.std.specs.Prelude.{◌≡◌, true, false, List, [], ◌∷◌, map, ℕ}
use Rattle.refusals.specs.Verdict.{passed}
use Rattle.literals.specs.Literals.{negative}
use Rattle.puzzles.specs.Checks.{colors, puzzle, puzzle_checks}
use Rattle.grids.specs.Grid.{grid_checks, grid_words}
use Rattle.truth.specs.Truth.{value}
use Rattle.pictures.specs.Pictures.{IsColor, Grid, obeys, Picture, Solves, Extends, shown, blocking, Model, Unique}
use Rattle.pictures.specs.Meaning.{IsColored, EachCell, OneColor}

-- P8: one cell, its column and its row (1,1), mask 3
unfoldable pub p8 : List ℕ
p8 = 1 ∷ 1 ∷ 1 ∷ 1 ∷ 1 ∷ 1 ∷ 1 ∷ 1 ∷ 1 ∷ 3 ∷ []

-- P10: width 2, height 1, columns (1,1) and none, row (1,1), masks 3
unfoldable pub p10 : List ℕ
p10 = 2 ∷ 1 ∷ 1 ∷ 1 ∷ 0 ∷ 1 ∷ 1 ∷ 1 ∷ 1 ∷ 2 ∷ 3 ∷ 3 ∷ []

-- P11: 2 by 2, all lines (1,1), masks 3
unfoldable pub p11 : List ℕ
p11 = 2 ∷ 1 ∷ 1 ∷ 1 ∷ 1 ∷ 1 ∷ 1 ∷ 2 ∷ 1 ∷ 1 ∷ 1 ∷ 1 ∷ 1 ∷ 1 ∷ 4 ∷ 3 ∷ 3 ∷ 3 ∷ 3 ∷ []

-- and its model of the falling diagonal
abbrev pub p11_model : List ℕ
p11_model = 1 ∷ 0 ∷ 0 ∷ 1 ∷ 1 ∷ 0 ∷ 0 ∷ 1 ∷ 1 ∷ 0 ∷ 0 ∷ 1 ∷ []

-- P12: one cell, empty clues, mask 3, and its model
unfoldable pub p12 : List ℕ
p12 = 1 ∷ 0 ∷ 1 ∷ 0 ∷ 1 ∷ 3 ∷ []

abbrev pub p12_model : List ℕ
p12_model = 0 ∷ []

-- no row of the table: width 2, height 1, columns (1,2) and (1,5), row (1,2) (1,5), masks of bits 0, 2 and 5; and its model
unfoldable pub two : List ℕ
two = 2 ∷ 1 ∷ 1 ∷ 2 ∷ 1 ∷ 1 ∷ 5 ∷ 1 ∷ 2 ∷ 1 ∷ 2 ∷ 1 ∷ 5 ∷ 2 ∷ 37 ∷ 37 ∷ []

abbrev pub two_model : List ℕ
two_model = 1 ∷ 1 ∷ 1 ∷ 1 ∷ 1 ∷ 0 ∷ 0 ∷ 1 ∷ []

-- the picture of P8; that of P10, and a grid that is none
abbrev pub full : List ℕ
full = 1 ∷ []

abbrev pub left : List ℕ
left = 1 ∷ 0 ∷ []

abbrev pub right : List ℕ
right = 0 ∷ 1 ∷ []

-- the two pictures of P11, and a grid that is none
abbrev pub falling : List ℕ
falling = 1 ∷ 0 ∷ 0 ∷ 1 ∷ []

abbrev pub rising : List ℕ
rising = 0 ∷ 1 ∷ 1 ∷ 0 ∷ []

abbrev pub level : List ℕ
level = 1 ∷ 1 ∷ 0 ∷ 0 ∷ []

-- the picture of two colours
abbrev pub touching : List ℕ
touching = 2 ∷ 5 ∷ []

-- ---- what holds of them

-- `read_grid` accepts the grid and writes these words
pub record Read (w h : ℕ) (grid ws : List ℕ) : Type 0 where
  pub checked : passed ≡ grid_checks w h grid
  pub written : grid_words w h grid ≡ ws

-- what computing finds
pub record Computed : Type 0 where
  -- the table's are accepted, and K is {1}
  pub p8_accepted : (passed ≡ puzzle_checks p8) × (colors (puzzle p8) ≡ 2)
  pub p10_accepted : (passed ≡ puzzle_checks p10) × (colors (puzzle p10) ≡ 2)
  pub p11_accepted : (passed ≡ puzzle_checks p11) × (colors (puzzle p11) ≡ 2)
  pub p12_accepted : (passed ≡ puzzle_checks p12) × (colors (puzzle p12) ≡ 2)
  -- grids that are read as them
  pub full_read : Read 1 1 full p8
  pub left_read : Read 2 1 left p10
  pub falling_read : Read 2 2 falling p11
  pub rising_read : Read 2 2 rising p11
  -- the first column of this one has no block, and the first row of that one is not a block of size 1
  pub right_off : Picture (puzzle p10) right → ⊥
  pub level_off : Picture (puzzle p11) level → ⊥
  -- a model of P11, its picture and its blocking clause; and those of P12, where the clause is empty
  pub p11_solved : Solves (puzzle p11) (value p11_model)
  pub p11_shown : shown (puzzle p11) (value p11_model) ≡ falling
  pub p11_blocking : blocking (puzzle p11) (value p11_model) ≡ negative 9 ∷ negative 12 ∷ []
  pub p12_solved : Solves (puzzle p12) (value p12_model)
  pub p12_shown : shown (puzzle p12) (value p12_model) ≡ 0 ∷ []
  pub p12_blocking : blocking (puzzle p12) (value p12_model) ≡ []
  -- the one of two colours: K is {2, 5}
  pub two_accepted : (passed ≡ puzzle_checks two) × (colors (puzzle two) ≡ 36)
  pub touching_read : Read 2 1 touching two
  pub two_solved : Solves (puzzle two) (value two_model)
  pub two_shown : shown (puzzle two) (value two_model) ≡ touching
  pub two_blocking : blocking (puzzle two) (value two_model) ≡ negative 5 ∷ negative 8 ∷ []
  -- which of blank, 1 and 2 obey: a solved blank, a solved 2, an unsolved mask without 2, and one with no bit 0 and a bit outside K
  pub solved_blank : map (obeys 1) (0 ∷ 1 ∷ 2 ∷ []) ≡ true ∷ false ∷ false ∷ []
  pub solved_color : map (obeys 4) (0 ∷ 1 ∷ 2 ∷ []) ≡ false ∷ false ∷ true ∷ []
  pub excluded : map (obeys 3) (0 ∷ 1 ∷ 2 ∷ []) ≡ true ∷ true ∷ false ∷ []
  pub blank_stays : map (obeys 34) (0 ∷ 1 ∷ 2 ∷ []) ≡ true ∷ true ∷ false ∷ []
  -- 8 and 9 are told: a row has its block where no cell is coloured; a cell has both colours
  pub row_off : EachCell (puzzle p10) (IsColored (value (0 ∷ 1 ∷ 0 ∷ 0 ∷ 0 ∷ []))) → ⊥
  pub both_off : OneColor (puzzle two) (value (1 ∷ 1 ∷ 1 ∷ 1 ∷ 1 ∷ 1 ∷ 0 ∷ 1 ∷ [])) → ⊥
  -- this assignment colours the first column, and the grid has the first row
  pub column_off : Extends (puzzle p11) level (value (0 ∷ 0 ∷ 0 ∷ 0 ∷ 0 ∷ 0 ∷ 0 ∷ 0 ∷ 1 ∷ 0 ∷ 1 ∷ 0 ∷ [])) → ⊥
  -- 5 is a colour where K is {2, 5}, and 2 no byte of a model
  pub five_known : IsColor (puzzle two) 5
  pub byte_off : Model (puzzle p12) (2 ∷ []) → ⊥
  -- P12 has one variable, and nothing is said of a second
  pub p12_unique : Unique (puzzle p12)
  pub p12_second : Solves (puzzle p12) (value (0 ∷ 1 ∷ []))

-- and their pictures; P11 has two
pub record SmallPictures : Type 0 where
  pub p8_full : Grid (puzzle p8) full × Picture (puzzle p8) full
  pub p10_left : Grid (puzzle p10) left × Picture (puzzle p10) left
  pub p11_falling : Grid (puzzle p11) falling × Picture (puzzle p11) falling
  pub p11_rising : Grid (puzzle p11) rising × Picture (puzzle p11) rising
  pub two_touching : Grid (puzzle two) touching × Picture (puzzle two) touching
