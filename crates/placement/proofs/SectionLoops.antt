-- The clauses of a section of lines, line by line.
use mathlib.Core.Path.{◌≡◌, refl}
use Prim.Native.Nat.{ℕ, ◌+◌}
use Rattle.lists.specs.Each.{each}
use Rattle.puzzles.specs.Puzzle.{Puzzle}
use Rattle.numbering.specs.Variables.{line_at}
use Rattle.placement.specs.declared.rule.Rule.{Rule}
use Rattle.placement.specs.Placement.{ruled, of_lines}

pub lines_are : (z : Puzzle) (rule : Rule) (from n : ℕ) → of_lines z rule from n ≡ each n (λ k. ruled rule (line_at z (from + k)))
unfolding of_lines
lines_are z rule from n = refl
