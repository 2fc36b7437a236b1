-- A cell's column and its row, one after the other.
use mathlib.Core.Path.{◌≡◌, refl}
use mathlib.Core.Bool.{Bool, true, false, cond}
use mathlib.Core.List.{[], ◌∷◌, ◌++◌}
use Prim.Native.Nat.{ℕ, zero, suc, ◌+◌, ◌^◌, ◌<◌}
use native.Mathlib.Omega.{arith}
use lib.Dec.{eqb}
use lib.ListN.{get_or}
use Rattle.lists.specs.Each.{each}
use Rattle.puzzles.specs.Puzzle.{Puzzle}
use Rattle.numbering.specs.Variables.{line_at}
use Rattle.truth.specs.Tested.{Countable}
use Rattle.cells.specs.declared.rule.Rule.{Rule}
use Rattle.cells.specs.declared.rule.Rule.TheVariants.{Color}
use Rattle.cells.specs.declared.section.Ask.{Ask}
use Rattle.cells.specs.Cells.{covering, ruled}
use Rattle.cells.specs.Asked.{asked}
use Rattle.colored.specs.Sides.{of_side}

pub sides_are : (z : Puzzle) (rule : Rule) (c v x row y : ℕ) → each 2 (of_side z rule c v x row y) ≡ ruled rule v (covering (line_at z x) c y) ++ ruled rule v (covering (line_at z row) c x)
unfolding each
sides_are z rule c v x row y = refl

pub two_sides : (z : Puzzle) (ask : Ask) (x row y : ℕ) {rule : Rule} → ask.rule ≡ rule → asked z ask x y ++ asked z ask row x ≡ each 2 (of_side z rule ask.color ask.v x row y)
two_sides z ask x row y {rule} e = rw (sides_are z rule ask.color ask.v x row y, e)

-- 7 is a clause each
pub two_clauses : (z : Puzzle) (ask : Ask) (x row y p : ℕ) → ask.rule ≡ Color → Countable p (asked z ask x y ++ asked z ask row x) → p + 2 < 2 ^ 63
unfolding ruled
two_clauses z ask x row y p e h = rw e at h

-- the line and the cell of side s, in the list of both sides
pub side_at : (x row y s : ℕ) (d : ℕ × ℕ) → s < 2 → get_or ((x, y) ∷ (row, x) ∷ []) s d ≡ (cond (eqb s 0) x row, cond (eqb s 0) y x)
side_at x row y zero d h = refl
side_at x row y (suc zero) d h = refl
side_at x row y (suc (suc s)) d h = absurd (omega arith)

pub picked_below : (b : Bool) {m k n : ℕ} → m < n → k < n → cond b m k < n
picked_below true h l = h
picked_below false h l = l
