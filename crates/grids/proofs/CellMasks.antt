-- The masks of a grid's cells: the one that the walk finds, and how their section is written.
use mathlib.Core.Path.{◌≡◌, sym, ◌∙◌}
use mathlib.Core.List.{List}
use Prim.Native.Nat.{ℕ, ◌+◌, ◌-◌, ◌≤◌}
use native.Mathlib.Omega.{arith}
use lib.ListN.{length, set, replicate}
use borrow.Rule.Slice.PartMut.{put_mid}
use Rattle.std.proofs.lemmas.List.{length-replicate, get_or-replicate, ext_get_or}
use borrow.Author.Tests.{eq-eqb, ne_eqb}
use Rattle.lists.specs.Each.{tab}
use Rattle.lists.specs.Wrote.{Wrote}
use Rattle.lists.proofs.Eaches.{length_tab, get_or_tab}
use Rattle.lists.proofs.Writing.{wrote_after, wrote_part}
use Rattle.puzzles.specs.Puzzle.{cells_words}
use Rattle.grids.specs.Mask.{grid_colors, cells_mask}

pub mask_blank : (grid : List ℕ) → grid_colors grid ≡ 1 → 3 ≡ cells_mask grid
unfolding cells_mask
mask_blank grid e = rw (eq-eqb (grid_colors grid) 1 e)

pub mask_colors : (grid : List ℕ) → (grid_colors grid ≡ 1 → ⊥) → grid_colors grid ≡ cells_mask grid
unfolding cells_mask
mask_colors grid n = rw (ne_eqb (grid_colors grid) 1 n)

-- ---- how they are written

tab_replicate : (n mask : ℕ) → tab n (λ _. mask) ≡ replicate n mask
tab_replicate n mask =
    ext_get_or 0 (tab n (λ _. mask)) (replicate n mask) (length_tab n _ ∙ sym (length-replicate n mask))
    (λ i h. get_or_tab n (λ _. mask) 0 i (omega (arith, h, length_tab n (λ _. mask))) ∙ sym (get_or-replicate n i mask 0 (omega (arith, h, length_tab n (λ _. mask)))))

-- after the count
pub masks_wrote : (mask n : ℕ) (out : List ℕ) (from : ℕ) → from + 1 + n ≤ length out → {k : ℕ} {masks : List ℕ} → k ≡ n → masks ≡ replicate k mask
    → Wrote (cells_words (tab n (λ _. mask))) out from (put_mid (from + 1) (from + 1 + n - (from + 1)) (set out from n) masks) (from + 1 + n)
unfolding cells_words
masks_wrote mask n out from r i e =
    let k : from + 1 + n - (from + 1) ≡ n = omega arith in
    rw (length_tab n (λ _. mask), tab_replicate n mask, k, e, i) (wrote_after out from n (omega arith) (wrote_part (replicate n mask) (set out from n) (from + 1) n (length-replicate n mask)))
