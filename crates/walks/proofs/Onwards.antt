-- Walks that go on: a word, one reader after another, n of them, a count and as many after it.
use mathlib.Core.Path.{◌≡◌, ap, ◌∙◌}
use mathlib.Core.Bool.{Bool}
use mathlib.Core.List.{List, [], ◌∷◌}
use Prim.Native.Nat.{ℕ, zero, suc, ◌+◌, ◌-◌}
use native.Mathlib.Omega.{arith}
use lib.ListN.{length, drop, length-drop}
use lib.Seq.{drop-drop}
use Rattle.refusals.specs.Walk.{Walk, got, stop_if, next, word, times, counted}
use Rattle.refusals.proofs.Walking.{same_got, stop_if_got, next_got}
use Rattle.walks.specs.Onward.{Behind, Onward}

module _ {B : Type 0} where
  behind_itself : (i : ℕ) (ws : List B) → Behind i ws i ws
  behind_itself i ws =
      let n : i - i ≡ 0 = omega arith in
      record { low = omega arith; within = omega arith; left_is = rw n }

  behind_both : {i j k : ℕ} {ws us vs : List B} → Behind i ws j us → Behind j us k vs → Behind i ws k vs
  behind_both {i} {j} {k} {ws} {us} {vs} a b =
      let n : j - i + (k - j) ≡ k - i = omega (arith, a.low, b.low) in
      record {
        low = omega (arith, a.low, b.low);
        within = omega (arith, a.low, a.within, b.within, ap length a.left_is, length-drop (j - i) ws);
        left_is = b.left_is ∙ ap (drop (k - j)) a.left_is ∙ drop-drop (k - j) (j - i) ws ∙ rw n;
      }

  module _ (n : ℕ) (off : B → Bool) (k : ℕ) where
    word_on : (i : ℕ) (ws : List B) (a : B) (j : ℕ) (us : List B) → word n off k i ws ≡ got a j us → Behind i ws j us
    unfolding word
    word_on i [] a j us e = let z : ◌≡◌ {A = ℕ} 0 1 = cc in absurd (omega arith)
    word_on i (x ∷ ws) a j us e =
        let s = same_got (stop_if_got (off x) _ _ _ e).1 in
        let m : i + 1 - i ≡ 1 = omega arith in
        rw (← s.1, ← s.2) (record { low = omega arith; within = omega arith; left_is = rw m })

    pub word_onward : Onward (word n off k)
    word_onward = record { on = word_on }

module _ {B C : Type 0} where
  pub got_onward : (c : C) → Onward {B = B} (λ i ws. got c i ws)
  got_onward c = record { on = λ i ws a j us e. let s = same_got e in rw (← s.1, ← s.2) (behind_itself i ws) }

  pub stop_if_onward : (b : Bool) (k p : ℕ) {f : ℕ → List B → Walk B C} → Onward f → Onward (λ i ws. stop_if b k p (f i ws))
  stop_if_onward b k p F = record { on = λ i ws a j us e. F.on i ws a j us (stop_if_got b k p _ e).1 }

module _ {B A C : Type 0} where
  -- what follows may depend on the place
  pub next_onward : {f : ℕ → List B → Walk B A} {g : ℕ → A → ℕ → List B → Walk B C} → Onward f → ((i : ℕ) (a : A) → Onward (g i a)) → Onward (λ i ws. next (f i ws) (g i))
  next_onward {f} {g} F G = record {
    on = λ i ws c k vs e.
        let t = next_got (f i ws) (g i) e in
        behind_both (F.on i ws t.value t.place t.left t.got_is) ((G i t.value).on t.place t.left c k vs t.then);
  }

  pub then_onward : {f : ℕ → List B → Walk B A} {g : A → ℕ → List B → Walk B C} → Onward f → ((a : A) → Onward (g a)) → Onward (λ i ws. next (f i ws) g)
  then_onward F G = next_onward F (λ i. G)

module _ {B A : Type 0} {f : ℕ → List B → Walk B A} (F : Onward f) where
  pub times_onward : (m : ℕ) → Onward (times m f)
  unfolding times
  times_onward zero = got_onward []
  times_onward (suc m) = then_onward F (λ a. then_onward (times_onward m) (λ l. got_onward (a ∷ l)))

  pub counted_onward : (size : B → ℕ) {c : ℕ → List B → Walk B B} → Onward c → Onward (counted size c f)
  unfolding counted
  counted_onward size C = then_onward C (λ x. times_onward (size x))
