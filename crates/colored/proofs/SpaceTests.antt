-- What 8 says of the positions that cover a cell, tested where they are found: block by block, and the positions of a block.
use mathlib.Core.Path.{◌≡◌, sym, ap, ◌∙◌}
use mathlib.Core.Bool.{Bool, true, false, not, ◌||◌, or-true, or-false, false≢true}
use mathlib.Core.List.{List, [], ◌∷◌}
use Prim.Native.Nat.{ℕ, ◌+◌, ◌-◌, ◌<◌}
use native.Mathlib.Nat.{add-zero}
use mir.Val.{bool_byte}
use borrow.Author.Tests.{ne_eqb}
use Rattle.lists.specs.Each.{each, when}
use Rattle.lists.proofs.Eaches.{rest}
use Rattle.literals.specs.Literals.{positive, negative}
use Rattle.refusals.specs.Verdict.{accepted, refused}
use Rattle.refusals.specs.Told.{refusal}
use Rattle.refusals.specs.declared.Refusal.{Refusal}
use Rattle.refusals.specs.declared.Refusal.TheVariants.{FalseClause}
use Rattle.truth.specs.Truth.{Assignment, literal_true, clause_true}
use Rattle.truth.specs.Tested.{tested, Countable}
use Rattle.truth.proofs.Testing.{Testing, testing_first, testing_room, testing_stop, testing_next}
use Rattle.truth.proofs.RowTests.{negative_true, one_true, one_false}
use Rattle.lines.specs.Clue.{Run}
use Rattle.lines.specs.Arrangement.{moved, covers, behind}
use Rattle.lines.specs.Arrangement as Arrangement
use Rattle.numbering.specs.Variables.{Line, many}
use Rattle.cells.specs.declared.rule.Rule.TheVariants.{Space}
use Rattle.cells.specs.Cells.{covering, ruled}
use Rattle.cells.specs.Found.{covering_block}
use Rattle.cells.proofs.BlockPositions.{late}
use Rattle.cells.proofs.CoveringPositions.{map_turns, of_block, covering_blocks}
use Rattle.cells.proofs.LinePositions.{BlockRead, block_is}

space_turns : (v n : ℕ) (f : ℕ → List ℕ) → ruled Space v (each n f) ≡ each n (λ k. ruled Space v (f k))
unfolding ruled
space_turns v n f = map_turns _ n f

-- ---- the positions of a block

module _ (β : Assignment) (v u p : ℕ) (r : Run) (t : ℕ) where
  abbrev pub BlockTesting : ℕ → ℕ → ℕ → Type 0
  BlockTesting at to i = Testing β at (ruled Space v (covering_block u p r t)) p (λ k. ruled Space v (when (covers (moved r k) t) ((u + k) ∷ []))) to i

  pub block_first : (at : ℕ) → BlockTesting at at 0
  unfolding covering_block
  block_first at = testing_first β p _ at _ (space_turns v p _)

  module _ {at to i : ℕ} (T : BlockTesting at to i) (h : i < p) where
    -- the positions from here on begin behind the cell
    pub block_late : behind (moved r i) t ≡ true → accepted to ≡ tested β at (ruled Space v (covering_block u p r t))
    unfolding rest tested ruled
    block_late l =
        sym (T.same ∙ rw (← space_turns v (p - i) (λ k. when (covers (moved r (i + k)) t) ((u + (i + k)) ∷ [])), late u r t (p - i) i l))

    early : covers (moved r i) t ≡ false → BlockTesting at to (i + 1)
    unfolding tested ruled
    early e = testing_next T h (rw e)

    module _ (m : covers (moved r i) t ≡ true) where
      passed : clause_true β (negative (u + i) ∷ positive v ∷ []) ≡ true → BlockTesting at (to + 1) (i + 1)
      unfolding ruled
      passed e = testing_next T h (rw m (one_true β to _ e))

      stopped : clause_true β (negative (u + i) ∷ positive v ∷ []) ≡ false → refused 15 to ≡ tested β at (ruled Space v (covering_block u p r t))
      unfolding ruled
      stopped e = testing_stop T h (FalseClause to) (rw m (one_false β to _ e))

    clause_held : β v ≡ true → clause_true β (negative (u + i) ∷ positive v ∷ []) ≡ true
    unfolding clause_true literal_true
    clause_held e = rw e (or-true (literal_true β (negative (u + i))))

    clause_is : 0 < u + i → clause_true β (negative (u + i) ∷ positive v ∷ []) ≡ (not (β (u + i)) || β v)
    unfolding clause_true literal_true
    clause_is some = rw (negative_true β (u + i) some) (ap (λ b. not (β (u + i)) || b) (or-false (β v)))

    pub block_stop : β v ≡ false → 0 < u + i → β (u + i) ≡ true → covers (moved r i) t ≡ true → refused 15 to ≡ tested β at (ruled Space v (covering_block u p r t))
    block_stop off some on m = stopped m (clause_is some ∙ rw (on, off))

    -- it is counted where it covers the cell
    module _ {counts : Bool} (o : counts ≡ covers (moved r i) t) {n : ℕ} (e : n ≡ bool_byte counts) where
      next : (covers (moved r i) t ≡ true → clause_true β (negative (u + i) ∷ positive v ∷ []) ≡ true) → BlockTesting at (to + n) (i + 1)
      next f = rw e (go counts o)
        where
          go : (b : Bool) → b ≡ covers (moved r i) t → BlockTesting at (to + bool_byte b) (i + 1)
          go true q = passed (sym q) (f (sym q))
          go false q = rw add-zero (early (sym q))

      pub block_held : β v ≡ true → BlockTesting at (to + n) (i + 1)
      block_held f = next (λ m. clause_held f)

      pub block_off : 0 < u + i → β (u + i) ≡ false → BlockTesting at (to + n) (i + 1)
      block_off some f = next (λ m. clause_is some ∙ rw f)

      pub block_miss : counts ≡ false → BlockTesting at (to + n) (i + 1)
      block_miss f = next (λ m. absurd (false≢true (sym f ∙ o ∙ m)))

-- ---- the blocks of a line

module _ (β : Assignment) (v : ℕ) (L : Line) (c t : ℕ) where
  abbrev pub BlocksTesting : ℕ → ℕ → ℕ → Type 0
  BlocksTesting at to b = Testing β at (ruled Space v (covering L c t)) (many L) (λ k. ruled Space v (of_block L c t k)) to b

  pub blocks_first : (at : ℕ) → BlocksTesting at at 0
  blocks_first at = testing_first β _ _ at _ (rw (covering_blocks L c t) (space_turns v (many L) (of_block L c t)))

  module _ {at to b : ℕ} (T : BlocksTesting at to b) {r : Run} where
    -- a block of another colour
    pub blocks_other : b < many L → r ≡ Arrangement.at L.runs b → (r.color ≡ c → ⊥) → BlocksTesting at to (b + 1)
    unfolding tested ruled
    blocks_other h e n = testing_next T h (rw (← e, ne_eqb r.color c n))

    module _ {u p : ℕ} (B : BlockRead L b u p r) (q : r.color ≡ c) where
      pub blocks_room : Countable at (ruled Space v (covering L c t)) → Countable to (ruled Space v (covering_block u p r t))
      blocks_room h = rw (← block_is B c t q) (testing_room T B.below h)

      pub blocks_stop : (why : Refusal) → refusal why ≡ tested β to (ruled Space v (covering_block u p r t)) → refusal why ≡ tested β at (ruled Space v (covering L c t))
      blocks_stop why e = testing_stop T B.below why (rw (block_is B c t q) e)

      pub blocks_next : {n : ℕ} → accepted n ≡ tested β to (ruled Space v (covering_block u p r t)) → BlocksTesting at n (b + 1)
      blocks_next e = testing_next T B.below (rw (block_is B c t q) e)
