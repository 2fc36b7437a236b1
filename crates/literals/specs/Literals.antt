-- Document 01: a literal is v or -v. In clause words it is an integer.
use Rattle.std.specs.Prelude.{◌≡◌, Bool, true, false, ◌||◌, Option, Some, None, ℕ, ◌≤◌, ◌<◌, ℤ, pos, negsuc, neg_ℤ, nat_abs, eqb, ltb}
use Rattle.literals.specs.declared.Literal.{Literal}

-- the largest variable of a literal
abbrev pub largest : ℕ
largest = 1000000

-- variables count from 1
pub record IsVariable (v : ℕ) : Type 0 where
  pub least : 0 < v
  pub most : v ≤ largest

-- the words of a variable's two literals
abbrev pub positive : ℕ → ℤ
positive v = pos v

abbrev pub negative : ℕ → ℤ
negative v = neg_ℤ (pos v)

-- the variable and the sign of a word
abbrev pub variable : ℤ → ℕ
variable z = nat_abs z

abbrev pub is_negative : ℤ → Bool
is_negative (pos v) = false
is_negative (negsuc v) = true

-- a word that is no literal of the variables 1 to n: 0, or out of range, as the smallest i32 always is
abbrev pub off_literal : ℕ → ℤ → Bool
off_literal n z = eqb (variable z) 0 || (ltb n (variable z) || ltb largest (variable z))

-- what a word is read as
abbrev pub Reading : ℕ → ℤ → Option Literal → Type 0
Reading n z (Some l) = (off_literal n z ≡ false) × (l.word ≡ z)
Reading n z None = off_literal n z ≡ true
