-- The positions of a block that cover a cell: no more than its size, and the loop that finds them.
use mathlib.Core.Path.{◌≡◌, refl, ◌∙◌}
use mathlib.Core.Bool.{true, false, cond}
use mathlib.Core.List.{List, [], ◌∷◌}
use Prim.Native.Nat.{ℕ, zero, suc, ◌+◌, ◌-◌, ◌≤◌, ◌<◌}
use native.Mathlib.Omega.{arith}
use lib.ListN.{length, set}
use Rattle.lists.specs.Each.{each, when, sum}
use Rattle.lists.specs.Wrote.{Wrote}
use Rattle.lists.proofs.Emitting.{Emitting, emit_first, emit_room, emit_next, emit_done}
use Rattle.lists.proofs.Eaches.{rest}
use Rattle.lists.proofs.Sums.{length_each, length_when, sum_same}
use Rattle.lists.proofs.Writing.{wrote_none, wrote_store, fill_done}
use Rattle.lines.specs.Clue.{Run}
use Rattle.lines.specs.Arrangement.{moved, covers, behind}
use Rattle.lines.proofs.Moving.{behind_none}
use Rattle.lines.proofs.Covering.{covers_most}
use Rattle.cells.specs.Found.{covering_block}

module _ (v : ℕ) (r : Run) (t : ℕ) where
  pub block_most : (p : ℕ) → length (covering_block v p r t) ≤ r.size
  unfolding covering_block
  block_most p = omega (arith, covers_most r t p, size)
    where
      size : length (each p (λ i. when (covers (moved r i) t) ((v + i) ∷ []))) ≡ sum p (λ i. cond (covers (moved r i) t) 1 0)
      size = length_each p _ ∙ sum_same p _ _ (λ i _. length_when (covers (moved r i) t) (v + i))

  -- from a position behind the cell on there is none
  pub late : (n i : ℕ) → behind (moved r i) t ≡ true → each n (λ k. when (covers (moved r (i + k)) t) ((v + (i + k)) ∷ [])) ≡ []
  unfolding each
  late zero i l = refl
  late (suc n) i l = rw (late n i l, behind_none r t i (i + n) l (omega arith))

  -- the loop that finds them
  module _ (p : ℕ) where
    abbrev pub Reaching : List ℕ → ℕ → List ℕ → ℕ → ℕ → Type 0
    Reaching = Emitting p (λ i. when (covers (moved r i) t) ((v + i) ∷ []))

    pub reaching_first : (found : List ℕ) (at : ℕ) → at + length (covering_block v p r t) ≤ length found → Reaching found at found at 0
    unfolding covering_block
    reaching_first found at h = emit_first p _ found at h

    module _ {found₀ found : List ℕ} {at₀ at i : ℕ} (E : Reaching found₀ at₀ found at i) (h : i < p) where
      pub reaching_late : behind (moved r i) t ≡ true → Wrote (covering_block v p r t) found₀ at₀ found at
      unfolding covering_block rest
      reaching_late l = fill_done E.fill (late (p - i) i l)

      pub reaching_early : covers (moved r i) t ≡ false → Reaching found₀ at₀ found at (i + 1)
      reaching_early e = emit_next E h (rw e (wrote_none found at))

      module _ (e : covers (moved r i) t ≡ true) where
        pub reaching_space : at < length found
        reaching_space = omega (arith, rw e at (emit_room E h))

        pub reaching_next : Reaching found₀ at₀ (set found at (v + i)) (at + 1) (i + 1)
        reaching_next = emit_next E h (rw e (wrote_store found at (v + i) reaching_space))

    pub reaching_done : {found₀ found : List ℕ} {at₀ at i : ℕ} → Reaching found₀ at₀ found at i → p ≤ i → Wrote (covering_block v p r t) found₀ at₀ found at
    unfolding covering_block
    reaching_done E h = emit_done E h
