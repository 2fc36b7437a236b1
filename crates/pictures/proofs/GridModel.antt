-- The model of a grid: each cell variable is true where the cell has its colour, each position where the lines show the block.
use mathlib.Core.Path.{◌≡◌, refl, sym, ap, ◌∙◌}
use mathlib.Core.Bool.{Bool, true, false, cond}
use mathlib.Core.List.{List}
use Prim.Native.Nat.{ℕ, suc, ◌+◌, ◌-◌, ◌*◌, ◌<◌}
use native.Mathlib.Omega.{arith}
use lib.Dec.{eqb, ltb}
use lib.ListN.{length, get_or}
use borrow.Author.Tests.{lt-ltb, le-ltb}
use Rattle.lists.specs.Each.{tab}
use Rattle.lists.proofs.Eaches.{length_tab, get_or_tab}
use Rattle.lists.proofs.Tests.{cond_most}
use Rattle.lines.specs.Clue.{gap}
use Rattle.lines.proofs.Packing.{packed_length}
use Rattle.puzzles.specs.Puzzle.{Puzzle, width, height, lines, clue_at}
use Rattle.numbering.specs.Variables.{line_at, hue, variables}
use Rattle.numbering.specs.Names.{Name, position, cell, IsName, numbered}
use Rattle.numbering.proofs.OneToOne.{numbered_within, numbered_once, numbered_all}
use Rattle.grids.specs.Grid.{row, column}
use Rattle.truth.specs.Truth.{value}
use Rattle.pictures.specs.Pictures.{Extends, Model}
use Rattle.pictures.proofs.Choices.{choice}
use Rattle.pictures.proofs.LineArranged.{Stand}
use Rattle.pictures.proofs.LineReads.{offsets}

module _ (z : Puzzle) (grid : List ℕ) where
  -- line l, columns from 0, rows from width
  unfoldable line_of : ℕ → List ℕ
  line_of l = cond (ltb l (width z)) (column (width z) (height z) grid l) (row (width z) grid (l - width z))

  -- what the grid says of a name
  unfoldable told : Name → Bool
  told (position l b i) = eqb i (offsets (line_of l) b)
  told (cell x y r) = eqb (get_or grid (y * width z + x) 0) (hue z r)

  -- and so of the variable i + 1, by its name
  abbrev ToldOf : ℕ → Bool → Type 0
  ToldOf i b = (n : Name) → IsName z n → numbered z n ≡ suc i → b ≡ told n

  told_of : (f : ℕ → Bool) × ((i : ℕ) → i < variables z → ToldOf i (f i))
  told_of =
      choice ToldOf (variables z) false (λ i h.
      let (m, j, q) = numbered_all z (suc i) (omega arith) h in
      (told m, λ n k e. ap told (numbered_once z m n j k (q ∙ sym e))))

  pub model : List ℕ
  model = tab (variables z) (λ i. cond (told_of.0 i) 1 0)

  byte_at : (i : ℕ) → i < variables z → get_or model i 0 ≡ cond (told_of.0 i) 1 0
  unfolding model
  byte_at i h = get_or_tab {A = ℕ} (variables z) (λ i. cond (told_of.0 i) 1 0) 0 i h

  pub is_model : Model z model
  is_model = record { size = size; bytes = λ i h. rw (byte_at i (rw size at h)) (cond_most (told_of.0 i)) }
    where
      size : length model ≡ variables z
      size = unfold model in length_tab (variables z) _

  -- its assignment says of each name's variable what the grid says
  model_told : (n : Name) → IsName z n → value model (numbered z n) ≡ told n
  model_told n h =
      let (low, most) = numbered_within z n h in
      let i = numbered z n - 1 in
      let k : i < variables z = omega arith in
      ap (λ (x : ℕ). eqb x 1) (byte_at i k) ∙ is_byte (told_of.0 i) ∙ told_of.1 i k n h (omega arith)
    where
      is_byte : (b : Bool) → eqb (cond b 1 0) 1 ≡ b
      is_byte true = refl
      is_byte false = refl

  -- so it extends the grid
  pub model_extends : Extends z grid (value model)
  unfolding told
  model_extends x y r h k l = model_told (cell x y r) (h, k, l)

  -- and its blocks stand where the lines show them
  stands : (l : ℕ) → l < lines z → Stand (value model) (line_at z l) (offsets (line_of l))
  unfolding line_at told
  stands l h b i k j = model_told (position l b i) (h, omega (arith, packed_length gap (clue_at z l)), j)

  pub model_column : (x : ℕ) → x < width z → Stand (value model) (line_at z x) (offsets (column (width z) (height z) grid x))
  unfolding line_of
  model_column x h = let e = lt-ltb x (width z) h in rw e at (stands x (omega arith))

  pub model_row : (y : ℕ) → y < height z → Stand (value model) (line_at z (width z + y)) (offsets (row (width z) grid y))
  unfolding line_of
  model_row y h =
      let e = le-ltb (width z + y) (width z) (omega arith) in
      let q : width z + y - width z ≡ y = omega arith in
      rw (e, q) at (stands (width z + y) (omega arith))
