-- The laws of `Every`: what holds of each element, list by list as it is made.
use mathlib.Core.Path.{◌≡◌}
use mathlib.Core.Bool.{Bool, true, false}
use mathlib.Core.List.{List, [], ◌∷◌, ◌++◌, map, flatten}
use Prim.Native.Nat.{ℕ, zero, suc, ◌+◌, ◌-◌, ◌<◌}
use native.Mathlib.Omega.{arith}
use native.Mathlib.Decide.{dec_lt}
use lib.ListN.{length, length-append, get_or-append}
use lib.Seq.{get_or-append-add}
use Rattle.lists.specs.Each.{each, tab, when, Every}

-- P of each of them, as a tuple
unfoldable pub These : {A : Type 0} → (A → Type 0) → List A → Type 0
These P [] = Unit {0}
These P (a ∷ l) = P a × These P l

module _ {A : Type 0} (d : A) (P : A → Type 0) where
  every_none : Every d P []
  every_none k h = absurd (omega arith)

  pub every_more : (a : A) (l : List A) → P a → Every d P l → Every d P (a ∷ l)
  every_more a l p h zero k = p
  every_more a l p h (suc i) k = h i (omega arith)

  pub every_one : (a : A) → P a → Every d P (a ∷ [])
  every_one a p = every_more a [] p every_none

  pub every_append : (l m : List A) → Every d P l → Every d P m → Every d P (l ++ m)
  every_append l m a b k h = elim (dec_lt k (length l)) [
    | yes i ↦ rw (get_or-append l m d k i) (a k i)
    | no i ↦
        let j = k - length l in
        let e : k ≡ length l + j = omega arith in
        rw (e, get_or-append-add l m j d) (b j (omega (arith, length-append l m)))
  ]

  pub every_each : (n : ℕ) (f : ℕ → List A) → ((k : ℕ) → k < n → Every d P (f k)) → Every d P (each n f)
  unfolding each
  every_each zero f h = every_none
  every_each (suc n) f h = every_append (each n f) (f n) (every_each n f (λ k l. h k (omega arith))) (h n (omega arith))

  pub every_tab : (n : ℕ) (f : ℕ → A) → ((k : ℕ) → k < n → P (f k)) → Every d P (tab n f)
  unfolding tab
  every_tab n f h = every_each n _ (λ k l. every_one (f k) (h k l))

  pub every_when : (b : Bool) (l : List A) → Every d P l → Every d P (when b l)
  every_when true l h = h
  every_when false l h = every_none

  pub every_map : {B : Type 0} (e : B) (f : B → A) (l : List B) → Every e (λ b. P (f b)) l → Every d P (map f l)
  every_map e f [] h = every_none
  every_map e f (b ∷ l) h = every_more (f b) (map f l) (h 0 (omega arith)) (every_map e f l (λ i k. h (suc i) (omega arith)))

  -- of each that is listed
  pub every_these : (l : List A) → These P l → Every d P l
  unfolding These
  every_these [] t = every_none
  every_these (a ∷ l) t = every_more a l t.0 (every_these l t.1)

  -- of each element of each list
  pub every_flat : (ls : List (List A)) → Every [] (Every d P) ls → Every d P (flatten ls)
  unfolding flatten
  every_flat [] h = every_none
  every_flat (l ∷ ls) h = every_append l (flatten ls) (h 0 (omega arith)) (every_flat ls (λ i k. h (suc i) (omega arith)))

  -- ---- and back: what holds of each holds of each in a part

  pub append_every : (l m : List A) → Every d P (l ++ m) → Every d P l × Every d P m
  append_every l m h = (
    λ k i. rw (get_or-append l m d k i) at (h k (omega (arith, length-append l m))),
    λ k i. rw (get_or-append-add l m k d) at (h (length l + k) (omega (arith, length-append l m))),
  )

  pub each_every : (n : ℕ) (f : ℕ → List A) → Every d P (each n f) → (k : ℕ) → k < n → Every d P (f k)
  unfolding each
  each_every zero f h k l = absurd (omega arith)
  each_every (suc n) f h k l =
      let (before, last) = append_every (each n f) (f n) h in
      elim (dec_lt k n) [
        | yes i ↦ each_every n f before k i
        | no i ↦ let e : n ≡ k = omega arith in rw e at last
      ]
