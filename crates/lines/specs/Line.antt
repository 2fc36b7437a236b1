-- Document 01, "Line rules": reading a line, a list of colours with 0 for blank.
use Rattle.std.specs.Prelude.{not, cond, List, [], ◌∷◌, ◌++◌, ℕ, ◌+◌, eqb}
use Rattle.lists.specs.Each.{when}
use Rattle.lines.specs.Clue.{Block}

-- a run that has ended counts where it is not blank
unfoldable pub run : ℕ → ℕ → List Block
run size c = when (not (eqb c 0)) (record { size = size; color = c } ∷ [])

-- the maximal runs of cells that come after `size` cells of colour c
unfoldable pub runs_from : ℕ → ℕ → List ℕ → List Block
runs_from size c [] = run size c
runs_from size c (x ∷ l) = cond (eqb x c) (runs_from (size + 1) c l) (run size c ++ runs_from 1 x l)

-- the maximal runs of one non-blank colour, in order
unfoldable pub runs : List ℕ → List Block
runs l = runs_from 0 0 l
