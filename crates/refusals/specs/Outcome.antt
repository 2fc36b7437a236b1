-- What a call with a lent buffer answers and leaves: one form for every entry. `checks` are its refusals before 12, and ws what it writes.
use Rattle.std.specs.Prelude.{◌≡◌, List, ℕ, Result, length, ltb}
use Rattle.lists.specs.Wrote.{over}
use Rattle.refusals.specs.declared.Refusal.{Refusal}
use Rattle.refusals.specs.Verdict.{Verdict, Checks, accepted, refused, passed, number, place, refuse, and_then}
use Rattle.refusals.specs.Told.{told}

-- 12 where there is less room than is needed, at the length needed
abbrev pub fits : ℕ → ℕ → Checks
fits room need = refuse (ltb room need) 12 need passed

module _ {A : Type 0} where
  -- 12 is given last; acceptance tells how many were written
  abbrev pub verdict : Checks → List A → List A → Verdict ℕ
  verdict checks ws out = and_then checks (and_then (fits (length out) (length ws)) (accepted (length ws)))

  -- no refusal writes anything; acceptance writes exactly ws at the front, and the rest stays
  abbrev pub kept : Verdict ℕ → List A → List A → List A
  kept (accepted n) ws out = over ws out
  kept (refused k p) ws out = out

  -- an answer of the code, with the buffer that it leaves
  pub record Answers (checks : Checks) (ws out : List A) (answer : Result ℕ Refusal) (out' : List A) : Type 0 where
    pub answer_is : told answer ≡ verdict checks ws out
    pub out_is : out' ≡ kept (verdict checks ws out) ws out

  -- the number and the place that a caller sees, with the buffer that it gets back
  pub record Outcome (checks : Checks) (ws out : List A) (n p : ℕ) (out' : List A) : Type 0 where
    pub number_is : n ≡ number (verdict checks ws out)
    pub place_is : p ≡ place (verdict checks ws out)
    pub out_is : out' ≡ kept (verdict checks ws out) ws out
