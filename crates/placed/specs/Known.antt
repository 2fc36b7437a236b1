-- A model that has a byte for each variable of a line.
use Rattle.std.specs.Prelude.{ℕ, ◌+◌, ◌≤◌, ◌<◌}
use Rattle.numbering.specs.Variables.{Line, many, first_of}

-- the n bytes of a model are those of the variables 1 to n, and the line's are among them
abbrev pub Known : ℕ → Line → Type 0
Known n L = (b : ℕ) → b < many L → first_of L b + L.positions ≤ n + 1
