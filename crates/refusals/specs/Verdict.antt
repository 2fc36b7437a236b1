-- Document 01, "Refusal numbers": every answer has a number and a place; 0 is acceptance.
use Prim.{Unit, tt}
use Rattle.std.specs.Prelude.{Bool, cond, List, [], ◌∷◌, ℕ, ◌+◌}

pub data Verdict (A : Type 0) : Type 0 where
  -- with what was found
  accepted : A → Verdict A
  -- number and place
  refused : ℕ → ℕ → Verdict A

-- checks that pass say only that
abbrev pub Checks : Type 0
Checks = Verdict Unit

abbrev pub passed : Checks
passed = accepted tt

-- of a call that tells how many words or bytes it wrote
abbrev pub number : Verdict ℕ → ℕ
number (accepted n) = 0
number (refused k p) = k

abbrev pub place : Verdict ℕ → ℕ
place (accepted n) = n
place (refused k p) = p

-- number k at place p is given when the test holds, and else what follows
abbrev pub refuse : {A : Type 0} → Bool → ℕ → ℕ → Verdict A → Verdict A
refuse b k p v = cond b (refused k p) v

-- a refusal is handed up unchanged, and after an acceptance comes what follows
abbrev pub and_then : {A B : Type 0} → Verdict A → Verdict B → Verdict B
and_then (accepted a) v = v
and_then (refused k p) v = refused k p

-- number k at the first element that offends, from place p on
unfoldable pub first_off : {A : Type 0} → (A → Bool) → ℕ → ℕ → List A → Checks
first_off off k p [] = passed
first_off off k p (a ∷ l) = refuse (off a) k p (first_off off k (p + 1) l)
