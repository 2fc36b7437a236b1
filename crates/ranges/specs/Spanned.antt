-- The range that a colour's span stands for: zeros where the clue has none.
use Rattle.std.specs.Prelude.{List, [], ◌∷◌, ℕ, ◌+◌, Option, Some, None}
use Rattle.ranges.specs.declared.range.Span.{Span}

abbrev pub spanned : ℕ → Option Span → List ℕ
spanned slack None = 0 ∷ 0 ∷ []
spanned slack (Some s) = s.start ∷ (s.end + slack) ∷ []
