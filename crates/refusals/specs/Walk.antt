-- Document 01, "Refusal numbers": one walk over words from the left gives a number at the first word that offends.
-- A reader gets the words that are left and the place where they begin.
use Rattle.std.specs.Prelude.{Bool, cond, List, [], ◌∷◌, ℕ, zero, suc, ◌+◌, ltb, length}
use Rattle.refusals.specs.Verdict.{Verdict, Checks, accepted, refused, passed, refuse}

pub data Walk (B A : Type 0) : Type 0 where
  -- what was read, the place behind it and the words from there on
  got : A → ℕ → List B → Walk B A
  -- number and place
  stop : ℕ → ℕ → Walk B A

module _ {B A : Type 0} where
  -- where a walk came to
  abbrev pub outcome : Walk B A → Verdict ℕ
  outcome (got a i ws) = accepted i
  outcome (stop k p) = refused k p

  -- and then number k at the first word that is left over
  unfoldable pub walked : ℕ → Walk B A → Checks
  walked k (got a i ws) = refuse (ltb 0 (length ws)) k i passed
  walked k (stop n p) = refused n p

  -- what was read, or a where it stopped
  unfoldable pub read_or : A → Walk B A → A
  read_or a (got b i ws) = b
  read_or a (stop k p) = a

  abbrev pub stop_if : Bool → ℕ → ℕ → Walk B A → Walk B A
  stop_if b k p w = cond b (stop k p) w

  abbrev pub next : {C : Type 0} → Walk B A → (A → ℕ → List B → Walk B C) → Walk B C
  next (got a i ws) f = f a i ws
  next (stop k p) f = stop k p

-- a word: number n where there is none, at the number of words, and k where it is off
unfoldable pub word : {B : Type 0} → ℕ → (B → Bool) → ℕ → ℕ → List B → Walk B B
word n off k i [] = stop n i
word n off k i (x ∷ ws) = stop_if (off x) k i (got x (i + 1) ws)

module _ {B A : Type 0} where
  -- n of them, one after another
  unfoldable pub times : ℕ → (ℕ → List B → Walk B A) → ℕ → List B → Walk B (List A)
  times zero f i ws = got [] i ws
  times (suc n) f i ws = next (f i ws) (λ a j us. next (times n f j us) (λ l k vs. got (a ∷ l) k vs))

  -- a count, read by c, and as many after it
  unfoldable pub counted : (B → ℕ) → (ℕ → List B → Walk B B) → (ℕ → List B → Walk B A) → ℕ → List B → Walk B (List A)
  counted size c f i ws = next (c i ws) (λ x j us. times (size x) f j us)
