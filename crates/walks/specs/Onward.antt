-- A walk goes on from where it begins: what it leaves are the words behind what it read.
use Rattle.std.specs.Prelude.{◌≡◌, List, ℕ, ◌+◌, ◌-◌, ◌≤◌, length, drop}
use Rattle.refusals.specs.Walk.{Walk, got}

pub record Behind {B : Type 0} (i : ℕ) (ws : List B) (j : ℕ) (us : List B) : Type 0 where
  pub low : i ≤ j
  pub within : j ≤ i + length ws
  pub left_is : us ≡ drop (j - i) ws

pub record Onward {B A : Type 0} (f : ℕ → List B → Walk B A) : Type 0 where
  pub on : (i : ℕ) (ws : List B) (a : A) (j : ℕ) (us : List B) → f i ws ≡ got a j us → Behind i ws j us
