-- A loop `for i in 0..n` whose turn i writes f i; and one that starts at a later turn.
use mathlib.Core.Path.{◌≡◌, refl}
use mathlib.Core.List.{List, [], ◌∷◌}
use Prim.Native.Nat.{ℕ, ◌+◌, ◌-◌, ◌≤◌, ◌<◌}
use native.Mathlib.Omega.{arith}
use lib.ListN.{length, set}
use Rattle.lists.specs.Each.{each, tab}
use Rattle.lists.specs.Wrote.{Wrote}
use Rattle.lists.proofs.Eaches.{rest, rest_first, rest_next, rest_done, each_length}
use Rattle.lists.proofs.Writing.{Filling, fill_first, fill_room, fill_next, fill_kept, fill_done, wrote_store}

module _ {A : Type 0} where
  pub record Emitting (n : ℕ) (f : ℕ → List A) (out₀ : List A) (at₀ : ℕ) (out : List A) (at i : ℕ) : Type 0 where
    pub within : i ≤ n
    pub fill : Filling (each n f) out₀ at₀ (rest i n f) out at

  pub emit_first : (n : ℕ) (f : ℕ → List A) (out : List A) (at : ℕ) → at + length (each n f) ≤ length out → Emitting n f out at out at 0
  emit_first n f out at h = record { within = omega arith; fill = fill_first (each n f) out at h (rest_first n f) }

  module _ {n : ℕ} {f : ℕ → List A} {out₀ out : List A} {at₀ at i : ℕ} (E : Emitting n f out₀ at₀ out at i) where
    pub emit_kept : length out ≡ length out₀
    emit_kept = fill_kept E.fill

    pub emit_room : i < n → at + length (f i) ≤ length out
    emit_room h = fill_room E.fill (f i) (rest (i + 1) n f) (rest_next i n f h)

    pub emit_next : i < n → {out₁ : List A} {at₁ : ℕ} → Wrote (f i) out at out₁ at₁ → Emitting n f out₀ at₀ out₁ at₁ (i + 1)
    emit_next h w = record { within = omega arith; fill = fill_next E.fill (f i) (rest (i + 1) n f) (rest_next i n f h) w }

    pub emit_done : n ≤ i → Wrote (each n f) out₀ at₀ out at
    emit_done h = fill_done E.fill (rest_done i n f h)

  -- a loop `for i in s..n` whose turn i writes f i
  pub record EmittingFrom (s n : ℕ) (f : ℕ → List A) (out₀ : List A) (at₀ : ℕ) (out : List A) (at i : ℕ) : Type 0 where
    pub low : s ≤ i
    pub emit : Emitting (n - s) (λ k. f (s + k)) out₀ at₀ out at (i - s)

  pub from_first : (s n : ℕ) (f : ℕ → List A) (out : List A) (at : ℕ) → at + length (each (n - s) (λ k. f (s + k))) ≤ length out → EmittingFrom s n f out at out at s
  from_first s n f out at h =
      let e : 0 ≡ s - s = omega arith in
      record { low = omega arith; emit = rw e at (emit_first (n - s) (λ k. f (s + k)) out at h) }

  module _ {s n : ℕ} {f : ℕ → List A} {out₀ out : List A} {at₀ at i : ℕ} (E : EmittingFrom s n f out₀ at₀ out at i) where
    here : s + (i - s) ≡ i
    here = omega (arith, E.low)

    pub from_kept : length out ≡ length out₀
    from_kept = emit_kept E.emit

    pub from_room : i < n → at + length (f i) ≤ length out
    from_room h = rw here at (emit_room E.emit (omega (arith, E.low)))

    pub from_next : i < n → {out₁ : List A} {at₁ : ℕ} → Wrote (f i) out at out₁ at₁ → EmittingFrom s n f out₀ at₀ out₁ at₁ (i + 1)
    from_next h {out₁} {at₁} w =
        let e : i - s + 1 ≡ i + 1 - s = omega (arith, E.low) in
        let v : Wrote (f (s + (i - s))) out at out₁ at₁ = rw here w in
        record { low = omega (arith, E.low); emit = rw e at (emit_next E.emit (omega (arith, E.low)) v) }

    pub from_done : n ≤ i → Wrote (each (n - s) (λ k. f (s + k))) out₀ at₀ out at
    from_done h = emit_done E.emit (omega arith)

-- ---- turn i stores one element, at its own place `at + i`

module _ {A : Type 0} {n : ℕ} {f : ℕ → A} {out₀ out : List A} {at i : ℕ} (E : Emitting n (λ i. f i ∷ []) out₀ at out (at + i) i) where
  pub one_room : i < n → at + i < length out
  one_room h = omega (arith, emit_room E h)

  pub one_next : i < n → Emitting n (λ i. f i ∷ []) out₀ at (set out (at + i) (f i)) (at + (i + 1)) (i + 1)
  one_next h =
      let e : at + i + 1 ≡ at + (i + 1) = omega arith in
      rw e at (emit_next E h (wrote_store out (at + i) (f i) (one_room h)))

  -- they are all stored
  pub one_done : n ≤ i → Wrote (tab n f) out₀ at out (at + n)
  unfolding tab
  one_done h = let e : i ≡ n = omega (arith, E.within) in rw e at (emit_done E h)

pub one_first : {A : Type 0} (n : ℕ) (f : ℕ → A) (out : List A) (at : ℕ) → at + n ≤ length out → Emitting n (λ i. f i ∷ []) out at out (at + 0) 0
one_first n f out at h = let e : at ≡ at + 0 = omega arith in rw (← e) (emit_first n (λ i. f i ∷ []) out at (omega (arith, each_length n 1 (λ i. f i ∷ []) (λ i. refl))))
