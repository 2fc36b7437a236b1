-- What the calls write of an accepted model: the picture that it shows, and the clause that blocks it.
use mathlib.Core.Path.{◌≡◌, sym, ap, ◌∙◌}
use mathlib.Core.List.{List}
use Prim.Native.Nat.{ℕ, ◌+◌, ◌*◌, ◌≤◌, ◌<◌}
use native.Mathlib.Omega.{arith}
use lib.ListN.{length}
use Rattle.lists.proofs.Eaches.{length_tab}
use Rattle.refusals.specs.Verdict.{Checks, passed, and_then}
use Rattle.refusals.proofs.Answering.{then_accepted}
use Rattle.literals.specs.Literals.{largest}
use Rattle.sections.specs.Sections.{clause_words}
use Rattle.truth.specs.Truth.{Assignment}
use Rattle.puzzles.specs.Puzzle.{Puzzle}
use Rattle.puzzles.specs.Checks.{puzzle}
use Rattle.boards.specs.declared.board.Board.{Board}
use Rattle.numbering.specs.Variables.{variables}
use Rattle.cells.specs.Given.{Given}
use Rattle.cells.proofs.BoardCells.{given_shows}
use Rattle.pictures.specs.Pictures.{shown, blocking}
use Rattle.pictures.proofs.ColorsOfK.{hue_most}
use Rattle.checker.specs.Models.{trues, model_checks}
use Rattle.checker.proofs.Acceptance.{accepted_model}
use Rattle.checker.proofs.Counting.{trues_most}
use Rattle.checker.proofs.Ordering.{area_is, few, cells_within}
use Rattle.models.specs.Shown.{cell_colors, negated, AreBytes}
use Rattle.models.proofs.Negating.{trues_negated}

-- what was given, of a puzzle z
module _ {ws table : List ℕ} {board : Board} {colors : List ℕ} (G : Given ws table board colors) {z : Puzzle} (same : puzzle ws ≡ z) where
  pub are_bytes : AreBytes colors
  are_bytes r h = rw G.palette_is (omega (arith, hue_most (puzzle ws) r (omega (arith, (given_shows G).hues_are))))

  module _ (β : Assignment) where
    pub colors_are : cell_colors β board.first (board.width * board.height) colors ≡ shown z β
    unfolding cell_colors shown
    colors_are = rw (← same, area_is G, G.stands.first_is, G.palette_is)

    pub cells_many : board.width * board.height ≡ length (shown z β)
    unfolding shown
    cells_many = rw (← same) (area_is G ∙ sym (length_tab _ _))

    pub negated_are : negated β board.first (board.width * board.height * length colors) ≡ blocking z β
    unfolding negated blocking
    negated_are = rw (← same, area_is G, G.stands.first_is, G.palette_is)

    module _ {count : ℕ} (c : count ≡ trues β board.first (board.width * board.height * length colors)) where
      pub count_is : count ≡ length (negated β board.first (board.width * board.height * length colors))
      count_is = c ∙ trues_negated β board.first (board.width * board.height * length colors)

      pub count_most : count ≤ 126976
      count_most = omega (arith, c, trues_most β board.first (board.width * board.height * length colors), few G)

      pub blocking_many : 1 + count ≡ length (clause_words (blocking z β))
      unfolding clause_words
      blocking_many = omega (arith, count_is, ap length negated_are)

  -- an accepted model has a byte for each variable
  pub variables_within : (model : List ℕ) (u : Checks) → passed ≡ and_then u (model_checks z model)
      → (0 < board.first) × (board.first + board.width * board.height * length colors ≤ length model + 1) × (board.first + board.width * board.height * length colors ≤ largest + 1)
  variables_within model u e =
      let size : length model ≡ variables (puzzle ws) = rw same (accepted_model z model (then_accepted u _ e)).0.size in
      ((few G).some, cells_within G model size, omega (arith, few G))
