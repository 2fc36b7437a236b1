-- Document 01, "Slips to rule out" and "Fakes the statements shut out": what a slip would write, the definitions do not have; what a fake would answer, the promises do not allow.
use Rattle.std.specs.Prelude.{◌≡◌, List, [], ◌∷◌, ◌++◌, ℕ, suc, ℤ}
use Rattle.literals.specs.Literals.{positive, negative}
use Rattle.puzzles.specs.Checks.{puzzle}
use Rattle.truth.specs.Truth.{value, Satisfies}
use Rattle.pictures.specs.Pictures.{Picture, shown}
use Rattle.pictures.specs.Meaning.{section}
use Rattle.pictures.specs.Examples.{p8, p10, p11, p11_model, level}
use Rattle.haafgrim.specs.Entries.{ColorRanges, Clauses, Counts, CheckModel, Blocking}
use Rattle.table.specs.Table.{filled}

-- what is lent
abbrev pub sevens : ℕ → List ℤ
sevens n = filled n (positive 7)

-- ---- slips

-- width 3, height 1, columns (1,1), (1,2) and none, row (1,1) (1,2), masks of bits 0 to 2
unfoldable pub apart : List ℕ
apart = 3 ∷ 1 ∷ 1 ∷ 1 ∷ 1 ∷ 1 ∷ 2 ∷ 0 ∷ 1 ∷ 2 ∷ 1 ∷ 1 ∷ 1 ∷ 2 ∷ 3 ∷ 7 ∷ 7 ∷ 7 ∷ []

-- 2 by 2, columns (1,1) and (1,2), rows (1,1) and (1,2), masks of bits 0 to 2
unfoldable pub crossed : List ℕ
crossed = 2 ∷ 1 ∷ 1 ∷ 1 ∷ 1 ∷ 1 ∷ 2 ∷ 2 ∷ 1 ∷ 1 ∷ 1 ∷ 1 ∷ 1 ∷ 2 ∷ 4 ∷ 7 ∷ 7 ∷ 7 ∷ 7 ∷ []

-- the same, but the second cell excludes colour 1 and the third colour 2
unfoldable pub barred : List ℕ
barred = 2 ∷ 1 ∷ 1 ∷ 1 ∷ 1 ∷ 1 ∷ 2 ∷ 2 ∷ 1 ∷ 1 ∷ 1 ∷ 1 ∷ 1 ∷ 2 ∷ 4 ∷ 7 ∷ 5 ∷ 3 ∷ 7 ∷ []

-- width 1, height 6, column (1,1) (1,1), rows none, masks 3: each block has 4 positions
unfoldable pub tall : List ℕ
tall = 1 ∷ 2 ∷ 1 ∷ 1 ∷ 1 ∷ 1 ∷ 6 ∷ 0 ∷ 0 ∷ 0 ∷ 0 ∷ 0 ∷ 0 ∷ 6 ∷ 3 ∷ 3 ∷ 3 ∷ 3 ∷ 3 ∷ 3 ∷ []

-- width 2, height 1, columns (1,1) and (1,2), row (1,1), masks 3
unfoldable pub strange : List ℕ
strange = 2 ∷ 1 ∷ 1 ∷ 1 ∷ 1 ∷ 1 ∷ 2 ∷ 1 ∷ 1 ∷ 1 ∷ 1 ∷ 2 ∷ 3 ∷ 3 ∷ []

pub record SlipsRuledOut : Type 0 where
  -- sections 7 to 9 take cells column by column: of P11, variables 9, 11, 10, 12
  pub seven : section (puzzle p11) 7
      ≡ (positive 1 ∷ negative 9 ∷ []) ∷ (positive 5 ∷ negative 9 ∷ []) ∷ (positive 2 ∷ negative 11 ∷ []) ∷ (positive 7 ∷ negative 11 ∷ [])
      ∷ (positive 3 ∷ negative 10 ∷ []) ∷ (positive 6 ∷ negative 10 ∷ []) ∷ (positive 4 ∷ negative 12 ∷ []) ∷ (positive 8 ∷ negative 12 ∷ []) ∷ []
  pub eight : section (puzzle p11) 8
      ≡ (negative 1 ∷ positive 9 ∷ []) ∷ (negative 5 ∷ positive 9 ∷ []) ∷ (negative 2 ∷ positive 11 ∷ []) ∷ (negative 7 ∷ positive 11 ∷ [])
      ∷ (negative 3 ∷ positive 10 ∷ []) ∷ (negative 6 ∷ positive 10 ∷ []) ∷ (negative 4 ∷ positive 12 ∷ []) ∷ (negative 8 ∷ positive 12 ∷ []) ∷ []
  pub nine : section (puzzle crossed) 9
      ≡ (negative 9 ∷ negative 10 ∷ []) ∷ (negative 13 ∷ negative 14 ∷ []) ∷ (negative 11 ∷ negative 12 ∷ []) ∷ (negative 15 ∷ negative 16 ∷ []) ∷ []
  -- different colours may touch: one conflict, where the test of one colour would find three; that one colour may not is row P6 of the table
  pub one_conflict : section (puzzle apart) 6 ≡ (negative 4 ∷ negative 5 ∷ []) ∷ []
  -- a blocking clause names true cells, and no other cell or block
  pub true_cells : (n p : ℕ) (out : List ℤ) → Blocking p11 p11_model (sevens 3) n p out → out ≡ positive 2 ∷ negative 9 ∷ negative 12 ∷ []
  -- pairs first outer: of four positions, and of those of two blocks
  pub first_outer : section (puzzle tall) 3
      ≡ (negative 1 ∷ negative 2 ∷ []) ∷ (negative 1 ∷ negative 3 ∷ []) ∷ (negative 1 ∷ negative 4 ∷ []) ∷ (negative 2 ∷ negative 3 ∷ []) ∷ (negative 2 ∷ negative 4 ∷ []) ∷ (negative 3 ∷ negative 4 ∷ [])
      ∷ (negative 5 ∷ negative 6 ∷ []) ∷ (negative 5 ∷ negative 7 ∷ []) ∷ (negative 5 ∷ negative 8 ∷ []) ∷ (negative 6 ∷ negative 7 ∷ []) ∷ (negative 6 ∷ negative 8 ∷ []) ∷ (negative 7 ∷ negative 8 ∷ []) ∷ []
  pub earlier_outer : section (puzzle tall) 5
      ≡ (negative 2 ∷ negative 5 ∷ []) ∷ (negative 3 ∷ negative 5 ∷ []) ∷ (negative 3 ∷ negative 6 ∷ []) ∷ (negative 4 ∷ negative 5 ∷ []) ∷ (negative 4 ∷ negative 6 ∷ []) ∷ (negative 4 ∷ negative 7 ∷ []) ∷ []
  -- section 10 row by row: of the second cell and then of the third
  pub ten : section (puzzle barred) 10 ≡ (negative 11 ∷ []) ∷ (negative 14 ∷ []) ∷ []
  -- K is of the rows alone
  pub row_colors : (n p : ℕ) (out : List ℤ) → Clauses strange [] n p out → (n ≡ 9) × (p ≡ 1)
  -- a colour's range ends with its last block
  pub last_end : (n p : ℕ) (out : List ℕ) → ColorRanges 4 (1 ∷ 1 ∷ 1 ∷ 1 ∷ []) (filled 62 7) n p out → out ≡ 0 ∷ 4 ∷ filled 60 0
  -- 13 before 14, at V
  pub length_first : (n p : ℕ) (out : List ℕ) → CheckModel p8 (2 ∷ 1 ∷ []) (7 ∷ []) n p out → (n ≡ 13) × (p ≡ 3)
  -- places count from the front of all words: P8 with a row's block of size 0, and with mask 0
  pub row_place : (n p : ℕ) (out : List ℤ) → Clauses (1 ∷ 1 ∷ 1 ∷ 1 ∷ 1 ∷ 1 ∷ 0 ∷ 1 ∷ 1 ∷ 3 ∷ []) [] n p out → (n ≡ 4) × (p ≡ 6)
  pub cell_place : (n p : ℕ) (out : List ℤ) → Clauses (1 ∷ 1 ∷ 1 ∷ 1 ∷ 1 ∷ 1 ∷ 1 ∷ 1 ∷ 1 ∷ 0 ∷ []) [] n p out → (n ≡ 8) × (p ≡ 9)

-- ---- fakes

-- no model of P11: both blocks of its columns in the first row
abbrev pub p11_level : List ℕ
p11_level = 1 ∷ 0 ∷ 1 ∷ 0 ∷ 1 ∷ 0 ∷ 1 ∷ 0 ∷ 1 ∷ 1 ∷ 0 ∷ 0 ∷ []

pub record FakesShutOut : Type 0 where
  -- refusing everything: P8 is not refused
  pub refusing : (k p : ℕ) (out : List ℤ) → Clauses p8 (sevens 38) (suc k) p out → ⊥
  -- one fixed clause buffer, for P8 and P10
  pub fixed : (n p m q : ℕ) (out : List ℤ) → Clauses p8 (sevens 38) n p out → Clauses p10 (sevens 38) m q out → ⊥
  -- untouched output
  pub untouched : (n p : ℕ) → Clauses p8 (sevens 38) n p (sevens 38) → ⊥
  pub untouched_too : (n p : ℕ) → Clauses p10 (sevens 38) n p (sevens 38) → ⊥
  -- only section 1
  pub only_one : (n p : ℕ) → Clauses p8 (sevens 38) n p ((positive 1 ∷ positive 1 ∷ positive 1 ∷ []) ++ sevens 35) → ⊥
  -- which admits a false picture
  pub false_picture : Satisfies (value p11_level) (section (puzzle p11) 1) × (shown (puzzle p11) (value p11_level) ≡ level) × (Picture (puzzle p11) level → ⊥)
  -- accepting every model: one of P8 makes the clause at 4 false
  pub accepting : (n p : ℕ) (out : List ℕ) → CheckModel p8 (1 ∷ 1 ∷ 0 ∷ []) (7 ∷ []) n p out → (n ≡ 15) × (p ≡ 4)
  -- an invented count, of words or of clauses
  pub words_counted : (n p : ℕ) (out : List ℤ) → Clauses p8 (sevens 38) n p out → p ≡ 26
  pub clauses_counted : (n p : ℕ) (out : List ℕ) → Counts p10 (filled 13 7) n p out → out ≡ 5 ∷ 1 ∷ 1 ∷ 0 ∷ 1 ∷ 0 ∷ 0 ∷ 4 ∷ 3 ∷ 0 ∷ 0 ∷ 18 ∷ 38 ∷ []
