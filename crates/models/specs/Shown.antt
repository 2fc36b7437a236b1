-- What is shown and blocked, of cells whose variables begin at v.
use Rattle.std.specs.Prelude.{List, [], ◌∷◌, ℕ, ◌+◌, ◌*◌, ◌<◌, length}
use Rattle.lists.specs.Each.{each, tab, when, Every}
use Rattle.literals.specs.Literals.{negative}
use Rattle.sections.specs.Sections.{Clause}
use Rattle.truth.specs.Truth.{Assignment}
use Rattle.pictures.specs.Pictures.{color_of}

-- the colours of n cells
unfoldable pub cell_colors : Assignment → ℕ → ℕ → List ℕ → List ℕ
cell_colors β v n palette = tab n (λ i. color_of β (v + i * length palette) palette)

-- each true one of the n variables from v on negated, ascending
unfoldable pub negated : Assignment → ℕ → ℕ → Clause
negated β v n = each n (λ k. when (β (v + k)) (negative (v + k) ∷ []))

abbrev pub AreBytes : List ℕ → Type 0
AreBytes palette = Every 0 (λ c. c < 256) palette
