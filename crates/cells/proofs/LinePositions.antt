-- The loop over a line's blocks that finds the positions of a colour that cover a cell.
use mathlib.Core.Path.{◌≡◌, ap}
use mathlib.Core.List.{List}
use Prim.Native.Nat.{ℕ, ◌+◌, ◌-◌, ◌≤◌, ◌<◌}
use native.Mathlib.Omega.{arith}
use lib.ListN.{length}
use borrow.Author.Tests.{eq-eqb, ne_eqb}
use Rattle.lists.specs.Wrote.{Wrote}
use Rattle.lists.proofs.Emitting.{Emitting, emit_first, emit_room, emit_next}
use Rattle.lists.proofs.Writing.{wrote_none}
use Rattle.literals.specs.Literals.{largest}
use Rattle.lines.specs.Clue.{Run, end}
use Rattle.lines.specs.Arrangement.{at}
use Rattle.numbering.specs.Variables.{Line, many, first_of}
use Rattle.numbering.specs.Tables.{Sound}
use Rattle.numbering.proofs.SoundLines.{sound_some, sound_most, sound_within}
use Rattle.cells.specs.Found.{covering_block}
use Rattle.cells.proofs.CoveringPositions.{of_block, covering_blocks, covering_most}

-- block b, as it is read: its first variable, its positions and its run
pub record BlockRead (L : Line) (b v p : ℕ) (r : Run) : Type 0 where
  pub below : b < many L
  pub first_is : v ≡ first_of L b
  pub positions_is : p ≡ L.positions
  pub run_is : r ≡ at L.runs b

module _ {L : Line} {b v p : ℕ} {r : Run} (B : BlockRead L b v p r) where
  pub block_within : Sound L → (v + p ≤ largest + 1) × (end r + p ≤ 65)
  block_within S =
      let some = sound_some S in
      let low = sound_most S b B.below in
      let far = rw (← B.run_is) at (sound_within S b B.below (p - 1) (omega (arith, B.positions_is))) in
      (omega (arith, low, B.first_is, B.positions_is), omega (arith, far, B.positions_is))

  pub block_is : (c t : ℕ) → r.color ≡ c → of_block L c t b ≡ covering_block v p r t
  block_is c t q = rw (← B.run_is, eq-eqb r.color c q, B.first_is, B.positions_is)

-- the loop
abbrev pub Searching : Line → ℕ → ℕ → List ℕ → List ℕ → ℕ → ℕ → Type 0
Searching L c t found₀ found to b = Emitting (many L) (of_block L c t) found₀ 0 found to b

module _ (L : Line) (c t : ℕ) where
  pub searching_first : Sound L → (found : List ℕ) → 64 ≤ length found → Searching L c t found found 0 0
  searching_first S found h = emit_first (many L) _ found 0 (omega (arith, covering_most S c t, ap length (covering_blocks L c t)))

  module _ {found₀ found : List ℕ} {to b : ℕ} (E : Searching L c t found₀ found to b) {r : Run} where
    -- a block of another colour
    pub searching_other : b < many L → r ≡ at L.runs b → (r.color ≡ c → ⊥) → Searching L c t found₀ found to (b + 1)
    searching_other h e n = emit_next E h (rw (← e, ne_eqb r.color c n) (wrote_none found to))

    module _ {v p : ℕ} (B : BlockRead L b v p r) (q : r.color ≡ c) where
      pub searching_room : to + length (covering_block v p r t) ≤ length found
      searching_room = rw (← block_is B c t q) (emit_room E B.below)

      pub searching_next : {found₁ : List ℕ} {to₁ : ℕ} → Wrote (covering_block v p r t) found to found₁ to₁ → Searching L c t found₀ found₁ to₁ (b + 1)
      searching_next w = emit_next E B.below (rw (block_is B c t q) w)
