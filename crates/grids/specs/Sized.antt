-- What holds of a grid whose size is accepted, and of its lines.
use Rattle.std.specs.Prelude.{◌≡◌, List, ℕ, ◌*◌, ◌≤◌, ◌<◌, length}
use Rattle.lists.specs.Each.{tab}
use Rattle.lines.specs.Clue.{Block}
use Rattle.lines.specs.Line.{runs}
use Rattle.runs.specs.Strided.{strided, Strided}

pub record Sized (w h : ℕ) (grid : List ℕ) : Type 0 where
  pub width_some : 0 < w
  pub width_most : w ≤ 64
  pub height_some : 0 < h
  pub height_most : h ≤ 64
  pub cells : length grid ≡ w * h

-- n lines of len cells, one after another at the front of a buffer
pub record Lined (n len : ℕ) (cells : List ℕ) : Type 0 where
  pub few : n ≤ 64
  pub short : len ≤ 64
  pub room : n * len ≤ length cells

-- n lines of len cells: line i from cell i * skip on, its cells a step apart
pub record Laid (n skip step len : ℕ) (cells : List ℕ) : Type 0 where
  pub few : n ≤ 64
  pub starts : (i : ℕ) → i < n → i * skip ≤ 4096
  pub lines : (i : ℕ) → i < n → Strided (i * skip) step len cells

-- their clues
unfoldable pub laid_clues : ℕ → ℕ → ℕ → ℕ → List ℕ → List (List Block)
laid_clues n skip step len cells = tab n (λ i. runs (strided (i * skip) step len cells))
