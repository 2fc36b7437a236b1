-- The colours of a set in order.
use mathlib.Core.Path.{◌≡◌, sym, ap, ◌∙◌}
use mathlib.Core.Bool.{true, false}
use mathlib.Core.List.{List, [], ◌∷◌}
use Prim.Native.Nat.{ℕ, suc, ◌+◌, ◌≤◌, ◌<◌}
use native.Mathlib.Omega.{arith}
use native.Mathlib.Nat.{zero-add}
use native.Mathlib.Numerals.{add-one}
use lib.ListN.{length, set, take}
use Rattle.lists.specs.Each.{when}
use Rattle.lists.specs.Wrote.{Wrote}
use Rattle.lists.proofs.Emitting.{Emitting, emit_first, emit_room, emit_next, emit_done}
use Rattle.lists.proofs.Parts.{each_most}
use Rattle.lists.proofs.Writing.{wrote_none, wrote_store, wrote_there}
use Rattle.bits.specs.Bits.{bit}
use Rattle.numbering.specs.Variables.{palette}

-- what turn k of the loop writes
abbrev pub color_of : ℕ → ℕ → List ℕ
color_of K k = when (bit K (suc k)) (suc k ∷ [])

pub palette_most : (K : ℕ) → length (palette K) ≤ 31
unfolding palette
palette_most K = omega (arith, each_most 31 1 (color_of K) (λ k. few (bit K (suc k)) k))
  where
    few : (b : _) (k : ℕ) → length (when b (suc k ∷ [])) ≤ 1
    few true k = omega arith
    few false k = omega arith

pub palette_first : (K : ℕ) (out : List ℕ) → 31 ≤ length out → Emitting 31 (color_of K) out 0 out 0 0
unfolding palette
palette_first K out h = emit_first 31 (color_of K) out 0 (omega (arith, palette_most K))

module _ (K : ℕ) {k : ℕ} {out₀ out : List ℕ} {at₀ at : ℕ} (E : Emitting 31 (color_of K) out₀ at₀ out at k) (h : k < 31) {t : _} (b : t ≡ bit K (k + 1)) where
  -- the colour is not of the set
  pub palette_skip : t ≡ false → Emitting 31 (color_of K) out₀ at₀ out at (k + 1)
  palette_skip e = emit_next E h (rw (← add-one k, ← b, e) (wrote_none out at))

  module _ (e : t ≡ true) where
    pub palette_room : at < length out
    palette_room = let q : length (color_of K k) ≡ 1 = rw (← add-one k, ← b, e) in omega (arith, emit_room E h, q)

    pub palette_next : Emitting 31 (color_of K) out₀ at₀ (set out at (k + 1)) (at + 1) (k + 1)
    palette_next = emit_next E h (rw (← add-one k, ← b, e) (wrote_store out at (k + 1) palette_room))

pub palette_done : (K : ℕ) {k : ℕ} {out₀ out : List ℕ} {at : ℕ} → Emitting 31 (color_of K) out₀ 0 out at k → 31 ≤ k → Wrote (palette K) out₀ 0 out at
unfolding palette
palette_done K E h = emit_done E h

-- `&colors[..k]`, where the palette was written
module _ (K : ℕ) {out out' : List ℕ} {k : ℕ} (w : Wrote (palette K) out 0 out' k) where
  pub palette_taken : take k out' ≡ palette K
  palette_taken = rw (w.next_is ∙ zero-add (length (palette K))) (wrote_there (omega arith) w)

  pub palette_count : k ≡ length (take k out')
  palette_count = w.next_is ∙ zero-add (length (palette K)) ∙ sym (ap length palette_taken)

  pub palette_few : k ≤ 31
  palette_few = omega (arith, w.next_is, palette_most K)
