-- Sums over the colours of a set.
use mathlib.Core.Path.{◌≡◌, refl, sym, ap, ◌∙◌}
use mathlib.Core.Bool.{Bool, true, false, cond}
use mathlib.Core.List.{List, [], ◌∷◌, ◌++◌}
use Prim.Native.Nat.{ℕ, zero, suc, ◌+◌, ◌-◌, ◌≤◌, ◌<◌}
use native.Mathlib.Omega.{arith}
use native.Mathlib.Nat.{mul-one}
use lib.ListN.{length, get_or, length-append, get_or-append}
use lib.Seq.{get_or-append-add}
use Rattle.lists.specs.Each.{each, when, sum}
use Rattle.lists.proofs.Sums.{sum_same, sum_constant, sum_plus, sum_one}
use Rattle.bits.specs.Bits.{bit}
use Rattle.numbering.specs.Variables.{palette}

-- over the elements of a list
over : List ℕ → (ℕ → ℕ) → ℕ
over l f = sum (length l) (λ r. f (get_or l r 0))

module _ (f : ℕ → ℕ) where
  over_append : (l m : List ℕ) → over (l ++ m) f ≡ over l f + over m f
  unfolding over
  over_append l m =
      rw (length-append l m)
      (omega (
        arith,
        sum_plus (length l) (length m) (λ r. f (get_or (l ++ m) r 0)),
        sum_same (length l) (λ r. f (get_or (l ++ m) r 0)) (λ r. f (get_or l r 0)) (λ r h. ap f (get_or-append l m 0 r h)),
        sum_same (length m) (λ k. f (get_or (l ++ m) (length l + k) 0)) (λ r. f (get_or m r 0)) (λ r h. ap f (get_or-append-add l m r 0)),
      ))

  over_each : (n : ℕ) (g : ℕ → List ℕ) → over (each n g) f ≡ sum n (λ k. over (g k) f)
  unfolding each sum
  over_each zero g = unfold over sum in refl
  over_each (suc n) g = rw (over_append (each n g) (g n), over_each n g)

  over_when : (b : Bool) (x : ℕ) → over (when b (x ∷ [])) f ≡ cond b (f x) 0
  unfolding over sum
  over_when true x = omega arith
  over_when false x = refl

  -- over the colours of a set, by colour
  pub over_colors : (K : ℕ) → sum (length (palette K)) (λ r. f (get_or (palette K) r 0)) ≡ sum 31 (λ k. cond (bit K (suc k)) (f (suc k)) 0)
  unfolding over palette
  over_colors K = over_each 31 _ ∙ sum_same 31 _ _ (λ k h. over_when (bit K (suc k)) (suc k))

  -- only one colour counts
  pub over_one : (K c : ℕ) → 0 < c → c ≤ 31 → bit K c ≡ true → ((d : ℕ) → (d ≡ c → ⊥) → f d ≡ 0) → sum (length (palette K)) (λ r. f (get_or (palette K) r 0)) ≡ f c
  over_one K c h l e o =
      let q : suc (c - 1) ≡ c = omega arith in
      over_colors K
      ∙ sum_one 31 _ (c - 1) (omega arith) (λ k i n. none (bit K (suc k)) (suc k) (o (suc k) (λ p. n (omega arith))))
      ∙ rw (q, e)
    where
      none : (b : Bool) (d : ℕ) → f d ≡ 0 → cond b (f d) 0 ≡ 0
      none true d e = e
      none false d e = refl

-- a set has as many colours as bits from 1 on
pub palette_count : (K : ℕ) → length (palette K) ≡ sum 31 (λ k. cond (bit K (suc k)) 1 0)
palette_count K = sym (sum_constant (length (palette K)) 1 ∙ mul-one (length (palette K))) ∙ over_colors (λ c. 1) K
