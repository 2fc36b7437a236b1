-- Where a section of lines ends: behind its count, which is small, and within the words.
use Rattle.std.specs.Prelude.{List, ℕ, ◌+◌, ◌≤◌, ◌<◌, length, get_or}

pub record IsLines (at : ℕ) (part : List ℕ) (end : ℕ) : Type 0 where
  pub low : at < end
  pub within : end ≤ at + length part
  pub count_most : get_or part 0 0 ≤ 64
