-- Where runs begin.
use Rattle.std.specs.Prelude.{cond, ◌||◌, ℕ, eqb}

-- 1 where a cell of colour x, after one of colour c, begins a run
unfoldable pub begins : ℕ → ℕ → ℕ
begins c x = cond (eqb x c || eqb x 0) 0 1
