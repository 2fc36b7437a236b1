-- What is looked for in a line, for a cell and a colour.
use Rattle.std.specs.Prelude.{List, [], ◌∷◌, ℕ, ◌+◌}
use Rattle.lists.specs.Each.{each, when, Every}
use Rattle.literals.specs.Literals.{IsVariable}
use Rattle.lines.specs.Clue.{Run}
use Rattle.lines.specs.Arrangement.{moved, covers}

-- of a block with p positions, numbered from v on, those that cover the cell t
unfoldable pub covering_block : ℕ → ℕ → Run → ℕ → List ℕ
covering_block v p r t = each p (λ i. when (covers (moved r i) t) ((v + i) ∷ []))

abbrev pub AreVariables : List ℕ → Type 0
AreVariables us = Every 0 IsVariable us
