-- Lines that lie in a longer list: n cells from one on, each a step after the one before.
use Rattle.std.specs.Prelude.{List, ℕ, ◌+◌, ◌*◌, ◌≤◌, ◌<◌, length, get_or}
use Rattle.lists.specs.Each.{tab}

unfoldable pub strided : ℕ → ℕ → ℕ → List ℕ → List ℕ
strided from step n cells = tab n (λ t. get_or cells (t * step + from) 0)

-- they are all in the list, which is no longer than a grid
pub record Strided (from step n : ℕ) (cells : List ℕ) : Type 0 where
  pub few : n ≤ 64
  pub small : length cells ≤ 4096
  pub inside : (t : ℕ) → t < n → t * step + from < length cells
