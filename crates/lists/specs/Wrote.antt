-- What a writer leaves in a buffer that it was lent: the one contract of all writers.
use Rattle.std.specs.Prelude.{◌≡◌, List, ◌++◌, ℕ, ◌+◌, length, take, drop}

module _ {A : Type 0} where
  -- ws stand in the buffer from `at` up to `next`, and the rest is as it was
  pub record Wrote (ws before : List A) (at : ℕ) (after : List A) (next : ℕ) : Type 0 where
    pub next_is : next ≡ at + length ws
    pub left : after ≡ take at before ++ (ws ++ drop next before)

  -- the buffer with ws at its front
  unfoldable pub over : List A → List A → List A
  over ws out = ws ++ drop (length ws) out
