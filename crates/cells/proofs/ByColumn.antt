-- The cells column by column: of each its colours, and of each colour the column, then the row.
use mathlib.Core.Path.{◌≡◌}
use mathlib.Core.List.{List, ◌++◌}
use Prim.Native.Nat.{ℕ, ◌+◌, ◌≤◌, ◌<◌}
use native.Mathlib.Omega.{arith}
use lib.ListN.{length, get_or}
use lib.IntN.{ℤ}
use Rattle.lists.specs.Each.{each}
use Rattle.lists.specs.Wrote.{Wrote}
use Rattle.lists.proofs.Emitting.{Emitting, emit_room, emit_next}
use Rattle.literals.specs.Literals.{IsVariable}
use Rattle.sections.specs.Sections.{Clause, clauses_words}
use Rattle.sections.proofs.ClauseLists.{say_first, say_done}
use Rattle.puzzles.specs.Puzzle.{Puzzle}
use Rattle.puzzles.specs.Checks.{puzzle}
use Rattle.boards.specs.declared.board.Board.{Board}
use Rattle.numbering.specs.Variables.{hues}
use Rattle.cells.specs.declared.rule.Rule.{Rule}
use Rattle.cells.specs.declared.section.Ask.{Ask}
use Rattle.cells.specs.Cells.{of_color, by_column, of_cells, of_cell}
use Rattle.cells.specs.Asked.{asked}
use Rattle.cells.specs.Given.{Given}
use Rattle.cells.proofs.BoardCells.{cell_at, given_shows, cell_is, cell_variables}

-- the column and the row of a cell
abbrev pub both : Puzzle → Board → Ask → ℕ → ℕ → List Clause
both z board ask x y = asked z ask x y ++ asked z ask (board.width + y) x

-- the loop over a cell's colours
abbrev pub Coloring : Puzzle → Rule → ℕ → ℕ → List ℤ → ℕ → List ℤ → ℕ → ℕ → Type 0
Coloring z rule x y = Emitting (hues z) (λ r. clauses_words (of_color z rule x y r))

pub coloring_first : (z : Puzzle) (rule : Rule) (x y : ℕ) (out : List ℤ) (at : ℕ) → at + length (clauses_words (of_cell z rule x y)) ≤ length out → Coloring z rule x y out at out at 0
coloring_first z rule x y out at h = say_first (hues z) (of_color z rule x y) out at h

module _ {ws table : List ℕ} {board : Board} {palette : List ℕ} (G : Given ws table board palette) where
  module _ (rule : Rule) (x y : ℕ) where
    -- what is asked for the r-th colour
    abbrev pub ask_of : ℕ → Ask
    ask_of r = record { rule = rule; color = get_or palette r 0; v = cell_at board (length palette) x y + r }

    pub color_is : (r : ℕ) → both (puzzle ws) board (ask_of r) x y ≡ of_color (puzzle ws) rule x y r
    unfolding of_color
    color_is r = rw (cell_is (given_shows G) x y, G.palette_is, G.stands.width_is)

    module _ {r : ℕ} (k : r < length palette) where
      pub color_variable : x < board.width → y < board.height → IsVariable (cell_at board (length palette) x y + r)
      color_variable h l = let v = cell_variables (given_shows G) x y h l in record { least = omega arith; most = omega arith }

      module _ {out₀ out : List ℤ} {at₀ at : ℕ} (E : Coloring (puzzle ws) rule x y out₀ at₀ out at r) where
        pub coloring_room : at + length (clauses_words (both (puzzle ws) board (ask_of r) x y)) ≤ length out
        coloring_room = rw (color_is r) (emit_room E (omega (arith, (given_shows G).hues_are)))

        pub coloring_next : {out₁ : List ℤ} {at₁ : ℕ} → Wrote (clauses_words (both (puzzle ws) board (ask_of r) x y)) out at out₁ at₁ → Coloring (puzzle ws) rule x y out₀ at₀ out₁ at₁ (r + 1)
        coloring_next w = emit_next E (omega (arith, (given_shows G).hues_are)) (rw (color_is r) at w)

    pub coloring_done : {out₀ out : List ℤ} {at₀ at r : ℕ} → Coloring (puzzle ws) rule x y out₀ at₀ out at r → length palette ≤ r → Wrote (clauses_words (of_cell (puzzle ws) rule x y)) out₀ at₀ out at
    coloring_done E n = say_done (hues (puzzle ws)) (of_color (puzzle ws) rule x y) E (omega (arith, (given_shows G).hues_are))

  -- the section
  pub columns_are : (rule : Rule) → of_cells (puzzle ws) rule ≡ each board.width (λ x. each board.height (of_cell (puzzle ws) rule x))
  unfolding by_column
  columns_are rule = rw (G.stands.width_is, G.stands.height_is)
