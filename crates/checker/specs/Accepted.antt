-- What the checker's acceptance means.
use Rattle.std.specs.Prelude.{◌≡◌, ◌↔◌, List, ℕ}
use Rattle.refusals.specs.Verdict.{passed}
use Rattle.truth.specs.Truth.{value}
use Rattle.puzzles.specs.Checks.{puzzle, puzzle_checks}
use Rattle.pictures.specs.Pictures.{Grid, Picture, Solves, Extends, Model, shown}
use Rattle.checker.specs.Models.{model_checks}

-- a model is accepted exactly when it has a byte, 0 or 1, for each variable and every clause of the ten sections is true
abbrev pub ModelsAccepted : Type 0
ModelsAccepted =
    (ws model : List ℕ) → passed ≡ puzzle_checks ws
    → (passed ≡ model_checks (puzzle ws) model) ↔ (Model (puzzle ws) model × Solves (puzzle ws) (value model))

-- what is then written is a picture, and its colours are those of the true cell variables
abbrev pub PicturesShown : Type 0
PicturesShown =
    (ws model : List ℕ) → passed ≡ puzzle_checks ws → passed ≡ model_checks (puzzle ws) model
    → Grid (puzzle ws) (shown (puzzle ws) (value model)) × Picture (puzzle ws) (shown (puzzle ws) (value model))
    × Extends (puzzle ws) (shown (puzzle ws) (value model)) (value model)
