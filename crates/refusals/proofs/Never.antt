-- A number that is never given: by checks, by what follows them, and by a call.
use mathlib.Core.Path.{◌≡◌, refl, sym, ◌∙◌}
use mathlib.Core.Bool.{Bool, true, false}
use mathlib.Core.Logic.{inl, inr}
use mathlib.Core.List.{List, [], ◌∷◌}
use Prim.Native.Nat.{ℕ, ◌+◌, ◌<◌}
use native.Mathlib.Omega.{arith}
use lib.Dec.{ltb}
use lib.ListN.{length}
use Rattle.refusals.specs.Verdict.{Verdict, Checks, accepted, refused, passed, number, refuse, and_then, first_off}
use Rattle.refusals.specs.Walk.{Walk, walked}
use Rattle.refusals.specs.Outcome.{Outcome, fits, verdict}
use Rattle.refusals.specs.Stops.{StopsAt, Stopping, Never}
use Rattle.refusals.proofs.Stopping.{walked_stops}

module _ (m : ℕ) where
  pub accepted_never : {A : Type 0} {a : A} → Never m (accepted a)
  accepted_never p e = let z : ◌≡◌ {A = ℕ} 0 1 = cc in omega arith

  -- what follows counts only where the checks before it pass
  pub passed_never : {A : Type 0} {v : Verdict A} (u : Checks) → Never m u → (passed ≡ u → Never m v) → Never m (and_then u v)
  passed_never (accepted x) U N q e = N refl q e
  passed_never (refused k p) U N q e = U q (let x : m ≡ k = cc in let y : q ≡ p = cc in rw (x, y))

  module _ {A : Type 0} {v : Verdict A} (N : Never m v) where
    pub refuse_never : (b : Bool) {k : ℕ} (p : ℕ) → (m ≡ k → ⊥) → Never m (refuse b k p v)
    refuse_never true {k} p n q e = n (let x : m ≡ k = cc in x)
    refuse_never false p n q e = N q e

    pub then_never : (u : Checks) → Never m u → Never m (and_then u v)
    then_never u U = passed_never u U (λ e. N)

  pub first_never : {A : Type 0} (off : A → Bool) {k : ℕ} → (m ≡ k → ⊥) → (p : ℕ) (l : List A) → Never m (first_off off k p l)
  unfolding first_off
  first_never off n p [] = accepted_never
  first_never off n p (a ∷ l) = refuse_never (first_never off n (p + 1) l) (off a) p n

  pub walked_never : {n : ℕ} → (m ≡ n → ⊥) → {B A : Type 0} {f : ℕ → List B → Walk B A} → Stopping n (λ k. m ≡ k → ⊥) f → {k : ℕ} → (m ≡ k → ⊥) → (i : ℕ) (ws : List B) → Never m (walked k (f i ws))
  walked_never {n} h F o i ws p e = go (walked_stops n (λ k. m ≡ k → ⊥) F o i ws e)
    where
      go : StopsAt n (λ k. m ≡ k → ⊥) (i + length ws) m p → ⊥
      go (inl x) = h x.0
      go (inr x) = x.0 refl

  -- what no check gives, no promise allows, but for 0 and 12
  pub outcome_never : 0 < m → (m ≡ 12 → ⊥) → {A : Type 0} {checks : Checks} {ws out : List A} {n p : ℕ} {out' : List A} → Never m checks → Outcome checks ws out n p out' → n ≡ m → ⊥
  outcome_never some h {checks = checks} {ws} {out} C o e = go (verdict checks ws out) whole (sym o.number_is ∙ e)
    where
      whole : Never m (verdict checks ws out)
      whole = then_never (then_never accepted_never (fits (length out) (length ws)) (refuse_never accepted_never (ltb (length out) (length ws)) (length ws) h)) checks C

      go : (v : Verdict ℕ) → Never m v → number v ≡ m → ⊥
      go (accepted a) N e = omega arith
      go (refused k p) N e = N p (rw e)
