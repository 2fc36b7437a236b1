-- Walks: what must have been there where something was read, and where a walk comes to.
use mathlib.Core.Path.{◌≡◌, refl}
use mathlib.Core.Bool.{Bool, true, false}
use mathlib.Core.List.{List}
use Prim.Native.Nat.{ℕ}
use native.Mathlib.Omega.{arith}
use Rattle.refusals.specs.Verdict.{accepted, refused}
use Rattle.refusals.specs.Walk.{Walk, got, stop, outcome, stop_if, next}

module _ {B A : Type 0} where
  pub record Got (w : Walk B A) (j : ℕ) : Type 0 where
    pub value : A
    pub left : List B
    pub got_is : w ≡ got value j left

  -- where a walk came to, by what it is
  pub outcome_got : (w : Walk B A) {j : ℕ} → accepted j ≡ outcome w → Got w j
  outcome_got (got a i ws) e = record { value = a; left = ws; got_is = cc }
  outcome_got (stop k p) e = let z : ◌≡◌ {A = ℕ} 0 1 = cc in absurd (omega arith)

  pub stopped : (w : Walk B A) {k p : ℕ} → outcome w ≡ refused k p → w ≡ stop k p
  stopped (got a i ws) e = let z : ◌≡◌ {A = ℕ} 0 1 = cc in absurd (omega arith)
  stopped (stop k p) e = cc

  pub same_got : {a b : A} {i j : ℕ} {ws us : List B} → got a i ws ≡ got b j us → (a ≡ b) × (i ≡ j) × (ws ≡ us)
  same_got e = (cc, cc, cc)

  pub stop_if_got : (b : Bool) (k p : ℕ) (w : Walk B A) {a : A} {j : ℕ} {us : List B} → stop_if b k p w ≡ got a j us → (b ≡ false) × (w ≡ got a j us)
  stop_if_got true k p w e = let z : ◌≡◌ {A = ℕ} 0 1 = cc in absurd (omega arith)
  stop_if_got false k p w e = (refl, e)

module _ {B A C : Type 0} where
  pub record Through (w : Walk B A) (f : A → ℕ → List B → Walk B C) (c : C) (j : ℕ) (us : List B) : Type 0 where
    pub value : A
    pub place : ℕ
    pub left : List B
    pub got_is : w ≡ got value place left
    pub then : f value place left ≡ got c j us

  pub next_got : (w : Walk B A) (f : A → ℕ → List B → Walk B C) {c : C} {j : ℕ} {us : List B} → next w f ≡ got c j us → Through w f c j us
  next_got (got a i ws) f e = record { value = a; place = i; left = ws; got_is = refl; then = e }
  next_got (stop k p) f e = let z : ◌≡◌ {A = ℕ} 0 1 = cc in absurd (omega arith)

  -- a refusal met on the way is the walk's
  pub next_refused : (w : Walk B A) (f : A → ℕ → List B → Walk B C) {k p : ℕ} → outcome w ≡ refused k p → outcome (next w f) ≡ refused k p
  next_refused (got a i ws) f e = let z : ◌≡◌ {A = ℕ} 0 1 = cc in absurd (omega arith)
  next_refused (stop k p) f e = e

  -- what was read may be put another way
  pub next_keeps : (g : A → C) (w : Walk B A) → outcome (next w (λ a i ws. got (g a) i ws)) ≡ outcome w
  next_keeps g (got a i ws) = refl
  next_keeps g (stop k p) = refl
