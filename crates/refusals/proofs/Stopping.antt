-- Where walks stop: a word, one reader after another, n of them, a count and as many after it, the whole.
use mathlib.Core.Path.{◌≡◌, refl, sym, ◌∙◌}
use mathlib.Core.Bool.{Bool, true, false}
use mathlib.Core.Logic.{inl, inr}
use mathlib.Core.List.{List, [], ◌∷◌}
use Prim.Native.Nat.{ℕ, zero, suc, ◌+◌}
use native.Mathlib.Omega.{arith}
use native.Mathlib.Nat.{add-zero}
use lib.Dec.{ltb}
use lib.ListN.{length}
use borrow.Author.Tests.{ltb-true}
use Rattle.refusals.specs.Verdict.{refused, refuse, passed}
use Rattle.refusals.specs.Walk.{Walk, got, stop, walked, stop_if, next, word, times, counted}
use Rattle.refusals.specs.Stops.{StopsAt, Stopping}
use Rattle.refusals.proofs.Walking.{same_got, stop_if_got, next_got}

module _ {B A : Type 0} where
  pub same_stop : {k p m q : ℕ} → ◌≡◌ {A = Walk B A} (stop k p) (stop m q) → (k ≡ m) × (p ≡ q)
  same_stop e = (cc, cc)

  got_not : {a : A} {j : ℕ} {us : List B} {k p : ℕ} → got a j us ≡ stop k p → ⊥
  got_not e = let z : ◌≡◌ {A = ℕ} 0 1 = cc in omega arith

module _ (n : ℕ) (Other : ℕ → Type 0) where
  -- ---- a word

  module _ {B : Type 0} (off : B → Bool) {k : ℕ} (o : Other k) where
    word_stops : (i : ℕ) (ws : List B) (m p : ℕ) → word n off k i ws ≡ stop m p → StopsAt n Other (i + length ws) m p
    unfolding word
    word_stops i [] m p e = let s = same_stop e in inl (sym s.0, sym s.1 ∙ sym (add-zero i))
    word_stops i (x ∷ ws) m p e = go (off x) e
      where
        go : (b : Bool) → stop_if b k i (got x (i + 1) ws) ≡ stop m p → StopsAt n Other (i + length (x ∷ ws)) m p
        go true e = let s = same_stop e in inr (rw (← s.0) o, omega (arith, s.1))
        go false e = absurd (got_not e)

    word_goes : (i : ℕ) (ws : List B) (a : B) (j : ℕ) (us : List B) → word n off k i ws ≡ got a j us → j + length us ≡ i + length ws
    unfolding word
    word_goes i [] a j us e = absurd (got_not (sym e))
    word_goes i (x ∷ ws) a j us e =
        let s = same_got (stop_if_got (off x) k i _ e).1 in
        rw (← s.1, ← s.2) (omega arith)

    pub word_stopping : Stopping n Other (word n off k)
    word_stopping = record { stops = word_stops; goes = word_goes }

  -- ---- one after another

  module _ {B C : Type 0} where
    pub got_stopping : (c : C) → Stopping n Other {B = B} (λ i ws. got c i ws)
    got_stopping c = record { stops = λ i ws k p e. absurd (got_not e); goes = λ i ws a j us e. let s = same_got e in rw (← s.1, ← s.2) }

  module _ {B A C : Type 0} where
    next_stops : (w : Walk B A) (g : A → ℕ → List B → Walk B C) {end k p : ℕ} → (w ≡ stop k p → StopsAt n Other end k p)
        → ((a : A) (j : ℕ) (us : List B) → w ≡ got a j us → g a j us ≡ stop k p → StopsAt n Other end k p) → next w g ≡ stop k p → StopsAt n Other end k p
    next_stops (got a j us) g first then e = then a j us refl e
    next_stops (stop k p) g first then e = let s = same_stop e in first (rw (s.0, s.1))

    -- where what follows may depend on the place
    pub next_stopping : {f : ℕ → List B → Walk B A} {g : ℕ → A → ℕ → List B → Walk B C} → Stopping n Other f
        → ((i : ℕ) (ws : List B) (a : A) (j : ℕ) (us : List B) → f i ws ≡ got a j us → (k p : ℕ) → g i a j us ≡ stop k p → StopsAt n Other (j + length us) k p)
        → ((i : ℕ) (a : A) (j : ℕ) (us : List B) (c : C) (l : ℕ) (vs : List B) → g i a j us ≡ got c l vs → l + length vs ≡ j + length us)
        → Stopping n Other (λ i ws. next (f i ws) (g i))
    next_stopping {f} {g} F then on = record {
      stops = λ i ws k p e. next_stops (f i ws) (g i) (F.stops i ws k p) (λ a j us q s. rw (← F.goes i ws a j us q) (then i ws a j us q k p s)) e;
      goes = λ i ws c l vs e. let t = next_got (f i ws) (g i) e in on i t.value t.place t.left c l vs t.then ∙ F.goes i ws t.value t.place t.left t.got_is;
    }

    pub then_stopping : {f : ℕ → List B → Walk B A} {g : A → ℕ → List B → Walk B C} → Stopping n Other f → ((a : A) → Stopping n Other (g a)) → Stopping n Other (λ i ws. next (f i ws) g)
    then_stopping F G = next_stopping F (λ i ws a j us q. (G a).stops j us) (λ i a j us. (G a).goes j us)

  -- ---- n of them, and after their count

  module _ {B A : Type 0} {f : ℕ → List B → Walk B A} (F : Stopping n Other f) where
    pub times_stopping : (m : ℕ) → Stopping n Other (times m f)
    unfolding times
    times_stopping zero = got_stopping []
    times_stopping (suc m) = then_stopping F (λ a. then_stopping (times_stopping m) (λ l. got_stopping (a ∷ l)))

    pub counted_stopping : (size : B → ℕ) {c : ℕ → List B → Walk B B} → Stopping n Other c → Stopping n Other (counted size c f)
    unfolding counted
    counted_stopping size C = then_stopping C (λ x. times_stopping (size x))

    -- ---- the whole, and what it leaves

    pub walked_stops : {k : ℕ} → Other k → (i : ℕ) (ws : List B) {m p : ℕ} → refused m p ≡ walked k (f i ws) → StopsAt n Other (i + length ws) m p
    unfolding walked
    walked_stops {k} o i ws {m} {p} e = go (f i ws) refl e
      where
        left : (b : Bool) {j : ℕ} → refused m p ≡ refuse b k j passed → (b ≡ true) × (m ≡ k) × (p ≡ j)
        left true e = (refl, cc, cc)
        left false e = let z : ◌≡◌ {A = ℕ} 0 1 = cc in absurd (omega arith)

        go : (w : Walk B A) → f i ws ≡ w → refused m p ≡ walked k w → StopsAt n Other (i + length ws) m p
        go (got a j us) q e =
            let s = left (ltb 0 (length us)) e in
            inr (rw s.1 o, omega (arith, ltb-true 0 (length us) s.0, s.2, F.goes i ws a j us q))
        go (stop l q') q e =
            let x : m ≡ l = cc in
            let y : p ≡ q' = cc in
            rw (x, y) (F.stops i ws l q' q)
