-- Variables that a model gives a value.
use Rattle.std.specs.Prelude.{List, ℕ, ◌≤◌, ◌<◌, length}
use Rattle.lists.specs.Each.{Every}
use Rattle.numbering.specs.Variables.{Line, many, variable}

abbrev pub Of : List ℕ → ℕ → Type 0
Of model v = (0 < v) × (v ≤ length model)

abbrev pub AllOf : List ℕ → List ℕ → Type 0
AllOf model us = Every 0 (Of model) us

-- each position of a line's blocks
abbrev pub LineOf : List ℕ → Line → Type 0
LineOf model L = (b i : ℕ) → b < many L → i < L.positions → Of model (variable L b i)
