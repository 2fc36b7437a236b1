-- The order of a model's refusals, as the checker gives them one after another.
use mathlib.Core.Path.{◌≡◌, sym, ◌∙◌}
use mathlib.Core.Bool.{Bool, true, false, not}
use mathlib.Core.List.{List, [], ◌∷◌}
use Prim.Native.Nat.{ℕ, ◌+◌, ◌-◌, ◌*◌, ◌≤◌, ◌<◌}
use native.Mathlib.Omega.{arith}
use native.Mathlib.Nat.{mul-le-mul_right}
use lib.ListN.{length}
use borrow.Author.Tests.{eq-eqb, ne_eqb}
use Rattle.refusals.specs.Verdict.{Verdict, Checks, accepted, refused, passed, refuse, and_then, first_off}
use Rattle.refusals.specs.Told.{refusal}
use Rattle.refusals.specs.declared.Refusal.{Refusal}
use Rattle.refusals.proofs.Answering.{refusal_is, handed_up}
use Rattle.sections.specs.Sections.{Clause}
use Rattle.truth.specs.Truth.{Assignment, value, clause_true}
use Rattle.truth.specs.Tested.{tested}
use Rattle.truth.proofs.AllTested.{tested_refused, tested_fine}
use Rattle.puzzles.specs.Puzzle.{Puzzle, width, height}
use Rattle.puzzles.specs.Checks.{puzzle}
use Rattle.boards.specs.declared.board.Board.{Board}
use Rattle.numbering.specs.Variables.{variables}
use Rattle.numbering.proofs.Bounds.{cells_most, cells_first, hues_most}
use Rattle.cells.specs.Given.{Given}
use Rattle.cells.proofs.BoardCells.{given_shows}
use Rattle.counts.specs.Families.{clauses}
use Rattle.checker.specs.Models.{value_checks, clause_checks, cell_checks, model_checks}

module _ {ws table : List ℕ} {board : Board} {colors : List ℕ} (G : Given ws table board colors) where
  abbrev z : Puzzle
  z = puzzle ws

  pub area_is : board.width * board.height ≡ width z * height z
  area_is = rw (G.stands.width_is, G.stands.height_is)

  -- the numbers of a board are small
  pub record Few : Type 0 where
    pub wide : board.width ≤ 64
    pub high : board.height ≤ 64
    pub area : board.width * board.height ≤ 4096
    pub colored : board.width * board.height * length colors ≤ 126976
    pub some : 0 < board.first
    pub most : board.first ≤ 135169

  pub few : Few
  few =
      let S = given_shows G in
      record {
        wide = omega (arith, S.good.width_most, G.stands.width_is);
        high = omega (arith, S.good.height_most, G.stands.height_is);
        area = omega (arith, area_is, cells_most z S.good);
        colored = omega (arith, mul-le-mul_right (length colors) (rw (← area_is) at (cells_most z S.good)), S.hues_are, hues_most z);
        some = omega (arith, cells_first z S.good, G.stands.first_is);
        most = omega (arith, cells_first z S.good, G.stands.first_is);
      }

  pub variables_is : board.first - 1 + board.width * board.height * length colors ≡ variables z
  unfolding variables
  variables_is = rw (area_is, G.stands.first_is, (given_shows G).hues_are)

  module _ (model : List ℕ) where
    -- 13
    pub other_length : {n : ℕ} → n ≡ variables z → (length model ≡ n → ⊥) → refused 13 n ≡ model_checks z model
    unfolding model_checks
    other_length e d = rw (e, ne_eqb (length model) (variables z) (rw e at d))

    module _ (size : length model ≡ variables z) where
      own_length : model_checks z model ≡ and_then (value_checks model) (and_then (clause_checks (value model) (clauses z)) (cell_checks (value model) board.first (board.width * board.height) (length colors)))
      unfolding model_checks
      own_length = rw (eq-eqb (length model) (variables z) size, area_is, G.stands.first_is, (given_shows G).hues_are)

      -- its cell variables are within it
      pub cells_within : board.first + board.width * board.height * length colors ≤ length model + 1
      cells_within = omega (arith, variables_is, few.some)

      module _ (why : Refusal) where
        -- 14
        pub bytes_refused : refusal why ≡ value_checks model → refusal why ≡ model_checks z model
        bytes_refused e = handed_up why e _ ∙ sym own_length

        -- 15
        pub clauses_refused : passed ≡ value_checks model → refusal why ≡ tested (value model) 0 (clauses z) → refusal why ≡ model_checks z model
        clauses_refused e f =
            let g : refusal why ≡ clause_checks (value model) (clauses z) = refusal_is why ∙ tested_refused (value model) 0 (clauses z) (sym (refusal_is why) ∙ f) in
            handed_up why g (cell_checks (value model) board.first (board.width * board.height) (length colors)) ∙ rw (own_length, ← e)

      -- 16
      pub cells_tell : passed ≡ value_checks model → {n : ℕ} → accepted n ≡ tested (value model) 0 (clauses z)
          → {v : Checks} → v ≡ cell_checks (value model) board.first (board.width * board.height) (length colors) → v ≡ model_checks z model
      cells_tell e f g = g ∙ rw (own_length, ← e, ← tested_fine (value model) 0 (clauses z) f)
