-- Condition 3: what a picture is, and what the clauses of a puzzle say about pictures.
use Rattle.std.specs.Prelude.{◌≡◌, ◌↔◌, ◌⊎◌, Bool, true, false, ◌||◌, cond, List, [], ◌∷◌, ◌++◌, map, ℕ, suc, ◌+◌, ◌*◌, ◌≤◌, ◌<◌, eqb, length, get_or}
use Rattle.lists.specs.Each.{each, tab, when, Every}
use Rattle.refusals.specs.Verdict.{passed}
use Rattle.literals.specs.Literals.{negative}
use Rattle.bits.specs.Bits.{bit, solved}
use Rattle.sections.specs.Sections.{Clause}
use Rattle.lines.specs.Line.{runs}
use Rattle.puzzles.specs.Puzzle.{Puzzle, width, height}
use Rattle.puzzles.specs.Checks.{colors, puzzle, puzzle_checks}
use Rattle.numbering.specs.Variables.{palette, hues, hue, first_cell, cell_variable, variables}
use Rattle.counts.specs.Families.{clauses}
use Rattle.grids.specs.Grid.{row, column, grid_checks, grid_words}
use Rattle.truth.specs.Truth.{Assignment, value, Satisfies}

-- ---- pictures

-- blank, or a colour of K
abbrev pub IsColor : Puzzle → ℕ → Type 0
IsColor z c = (c ≡ 0) ⊎ (bit (colors z) c ≡ true)

-- width times height cells, row by row, each blank or of a colour of K
pub record Grid (z : Puzzle) (grid : List ℕ) : Type 0 where
  pub cells : length grid ≡ width z * height z
  pub known : (i : ℕ) → i < length grid → IsColor z (get_or grid i 0)

-- an unsolved mask permits its colours, and blank whether or not bit 0 is set
unfoldable pub permits : ℕ → ℕ → Bool
permits mask c = eqb c 0 || bit mask c

-- a solved cell has the colour of its one bit, any other what its mask permits
unfoldable pub obeys : ℕ → ℕ → Bool
obeys mask c = cond (solved mask) (bit mask c) (permits mask c)

-- every column and every row reads as its clue, and every cell obeys its mask
pub record Picture (z : Puzzle) (grid : List ℕ) : Type 0 where
  pub columns_read : (x : ℕ) → x < width z → runs (column (width z) (height z) grid x) ≡ get_or z.columns x []
  pub rows_read : (y : ℕ) → y < height z → runs (row (width z) grid y) ≡ get_or z.rows y []
  pub masks_obeyed : (i : ℕ) → i < length grid → obeys (get_or z.masks i 0) (get_or grid i 0) ≡ true

-- ---- assignments

-- every clause of the ten families is true
abbrev pub Solves : Puzzle → Assignment → Type 0
Solves z β = Satisfies β (clauses z)

-- it extends the grid: a cell variable is true exactly where the cell has its colour
abbrev pub Extends : Puzzle → List ℕ → Assignment → Type 0
Extends z grid β =
    (x y r : ℕ) → x < width z → y < height z → r < hues z
    → β (cell_variable z x y r) ≡ eqb (get_or grid (y * width z + x) 0) (hue z r)

-- the first of the colours whose variable is true, their variables counted from v; blank for none
unfoldable pub color_of : Assignment → ℕ → List ℕ → ℕ
color_of β v [] = 0
color_of β v (c ∷ cs) = cond (β v) c (color_of β (suc v) cs)

-- the grid that an assignment shows
unfoldable pub shown : Puzzle → Assignment → List ℕ
shown z β = tab (width z * height z) (λ i. color_of β (first_cell z + i * hues z) (palette (colors z)))

-- the blocking clause: each true cell variable negated, ascending
unfoldable pub blocking : Puzzle → Assignment → Clause
blocking z β = each (width z * height z * hues z) (λ k. when (β (first_cell z + k)) (negative (first_cell z + k) ∷ []))

-- a model is one byte, 0 or 1, per variable
pub record Model (z : Puzzle) (model : List ℕ) : Type 0 where
  pub size : length model ≡ variables z
  pub bytes : (i : ℕ) → i < length model → get_or model i 0 ≤ 1

-- ---- the theorem, of a puzzle

-- Picture: some assignment satisfies the ten families and extends the grid exactly when the grid is a picture
abbrev pub PictureIs : Puzzle → Type 0
PictureIs z = (grid : List ℕ) → Grid z grid → ((β : Assignment) × Solves z β × Extends z grid β) ↔ Picture z grid

-- Unique: two such assignments of one grid agree on the variables 1 to V
abbrev pub Unique : Puzzle → Type 0
Unique z =
    (grid : List ℕ) (β γ : Assignment) → Solves z β → Solves z γ → Extends z grid β → Extends z grid γ
    → (v : ℕ) → 0 < v → v ≤ variables z → β v ≡ γ v

-- the i-th of a list
abbrev pub member : List Assignment → ℕ → Assignment
member L i = get_or L i (λ v. false)

-- Blocking: add the blocking clauses of any list of such assignments, and exactly the pictures that none of them shows remain
abbrev pub Blocking : Puzzle → Type 0
Blocking z =
    (L : List Assignment) → ((i : ℕ) → i < length L → Solves z (member L i))
    → (grid : List ℕ) → Grid z grid
    → ((β : Assignment) × Satisfies β (clauses z ++ map (blocking z) L) × Extends z grid β)
    ↔ (Picture z grid × ((i : ℕ) → i < length L → shown z (member L i) ≡ grid → ⊥))

-- Count: the models that satisfy the ten families and the pictures are one to one
pub record OneToOne (z : Puzzle) : Type 0 where
  -- an assignment shows a picture, the one that it extends
  pub shows : (β : Assignment) → Solves z β → Grid z (shown z β) × Picture z (shown z β) × Extends z (shown z β) β
  -- no two models show the same
  pub once : (m n : List ℕ) → Model z m → Model z n → Solves z (value m) → Solves z (value n) → shown z (value m) ≡ shown z (value n) → m ≡ n
  -- and each picture is shown
  pub all : (grid : List ℕ) → Grid z grid → Picture z grid → (m : List ℕ) × Model z m × Solves z (value m) × (shown z (value m) ≡ grid)

-- models that satisfy the ten families
abbrev pub Solutions : Puzzle → List (List ℕ) → Type 0
Solutions z ms = Every [] (λ m. Model z m × Solves z (value m)) ms

-- with their blocking clauses the ten families have no satisfying assignment
abbrev pub Exhausted : Puzzle → List (List ℕ) → Type 0
Exhausted z ms = (β : Assignment) → Satisfies β (clauses z ++ map (λ m. blocking z (value m)) ms) → ⊥

-- No other: then every picture is shown by one of them
abbrev pub NoOther : Puzzle → Type 0
NoOther z =
    (ms : List (List ℕ)) → Solutions z ms → Exhausted z ms
    → (grid : List ℕ) → Grid z grid → Picture z grid → (i : ℕ) × (i < length ms) × (shown z (value (get_or ms i [])) ≡ grid)

-- Exactly one: of one model, there is one picture, the one that it shows
abbrev pub ExactlyOne : Puzzle → Type 0
ExactlyOne z =
    (m : List ℕ) → Model z m → Solves z (value m) → Exhausted z (m ∷ [])
    → Grid z (shown z (value m)) × Picture z (shown z (value m))
    × ((grid : List ℕ) → Grid z grid → Picture z grid → shown z (value m) ≡ grid)

pub record Theorem (z : Puzzle) : Type 0 where
  pub picture : PictureIs z
  pub unique : Unique z
  pub blocked : Blocking z
  pub count : OneToOne z
  -- what a solver's "no" means
  pub no_other : NoOther z
  pub exactly_one : ExactlyOne z

-- it holds of every puzzle whose words are accepted
abbrev pub Condition3 : Type 0
Condition3 = (ws : List ℕ) → passed ≡ puzzle_checks ws → Theorem (puzzle ws)

-- Not vacuous: what `read_grid` writes of a grid is accepted, and the grid is a picture of it
abbrev pub GridsRead : Type 0
GridsRead =
    (w h : ℕ) (grid : List ℕ) → passed ≡ grid_checks w h grid
    → (passed ≡ puzzle_checks (grid_words w h grid))
    × Grid (puzzle (grid_words w h grid)) grid × Picture (puzzle (grid_words w h grid)) grid
