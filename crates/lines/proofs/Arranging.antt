-- The lines that read as a clue are the renderings of its arrangements, one for each.
use mathlib.Core.Path.{◌≡◌, sym, ap, ap₂, subst, subst₂, ◌∙◌}
use mathlib.Core.Bool.{false}
use mathlib.Core.List.{List, map}
use Prim.Native.Nat.{ℕ, zero, suc, ◌+◌, ◌-◌, ◌≤◌, ◌<◌}
use native.Mathlib.Omega.{arith}
use native.Mathlib.Decide.{dec_lt}
use lib.ListN.{length, get_or, length-map}
use lib.Seq.{ext_get_or}
use Rattle.lines.specs.Clue.{Block, Run, packed, min_space, positions}
use Rattle.lines.specs.Line.{runs}
use Rattle.lines.specs.Arrangement.{Gap, Proper, Arranged, Spaced, at, moved, clash, placed, color_at, render}
use Rattle.lines.proofs.Packing.{block, block_at_lem, min_space_none, packed_at, packed_length, packed_blocks, packed_first, packed_next, packed_last}
use Rattle.lines.proofs.Moving.{is_clear}
use Rattle.lines.proofs.Laying.{Laid, run_same, same_runs}
use Rattle.lines.proofs.Reading.{shown, read_laid, laid_proper}
use Rattle.lines.proofs.Rendering.{placed_length, placed_blocks, placed_at, render_length, render_cell, arranged_laid, render_shows, render_spaced}

module _ {g : ℕ → ℕ → ℕ} (G : Gap g) {bs : List Block} (p : Proper bs) {n : ℕ} {o : ℕ → ℕ} (A : Arranged g n bs o) where
  -- reading the line of an arrangement gives the clue back
  pub read_back : runs (render g n bs o) ≡ bs
  read_back =
      read_laid G (render g n bs o) (render_spaced G p A) (placed (packed g bs) o) (arranged_laid G p A) (render_shows G p A)
      ∙ placed_blocks (packed g bs) o
      ∙ packed_blocks g bs

  -- no other arrangement has that line
  pub arranged_once : {o' : ℕ → ℕ} → Arranged g n bs o' → render g n bs o ≡ render g n bs o' → (b : ℕ) → b < length bs → o b ≡ o' b
  arranged_once {o'} B e b l =
      let P = packed g bs in
      let k : b < length P = omega (arith, packed_length g bs) in
      let shows : (t : ℕ) → color_at (placed P o) t ≡ color_at (placed P o') t = λ t. sym (render_shows G p A t) ∙ ap (λ l. get_or l t 0) e ∙ render_shows G p B t in
      let u : placed P o ≡ placed P o' = same_runs G (placed P o) (placed P o') (arranged_laid G p A) (arranged_laid G p B) shows in
      let s : (at P b).start + o b ≡ (at P b).start + o' b = ap (λ r. r.start) (sym (placed_at P o b k) ∙ ap (λ R. at R b) u ∙ placed_at P o' b k) in
      omega arith

-- ---- laid runs as an arrangement of their clue

module _ {g : ℕ → ℕ → ℕ} (G : Gap g) {n : ℕ} (R : List Run) (L : Laid g n R) where
  block_is : (b : ℕ) → block (at (packed g (map block R)) b) ≡ block (at R b)
  block_is b = packed_at g (map block R) b ∙ block_at_lem R b

  -- a run is as far from its packed place as the run before, or farther
  slack : (b : ℕ) → suc b < length R → (at R b).start + (at (packed g (map block R)) (suc b)).start ≤ (at R (suc b)).start + (at (packed g (map block R)) b).start
  slack b h = omega (
    arith,
    L.apart b (suc b) (omega arith) h,
    packed_next g (map block R) b (rw length-map h),
    ap₂ (λ x y. g x.color y.color) (block_is b) (block_is (suc b)),
    ap (λ x. x.size) (block_is b),
  )

  -- no run stands before its packed place
  low : (b : ℕ) → b < length R → (at (packed g (map block R)) b).start ≤ (at R b).start
  low zero h = omega (arith, packed_first G (laid_proper R L) (rw length-map h))
  low (suc b) h = omega (arith, low b (omega arith), slack b h)

  -- and none farther from it than the last can be
  high : (k b : ℕ) → suc b + k ≡ length R → (at R b).start + min_space g (map block R) ≤ n + (at (packed g (map block R)) b).start
  high zero b h =
      omega (arith, packed_last g (map block R) b (rw length-map (omega arith)), L.within b (omega arith), ap (λ x. x.size) (block_is b))
  high (suc k) b h = omega (arith, high k (suc b) (omega arith), slack b (omega arith))

  -- the clue's least space is no more than the line
  fits : Dec (0 < length R) → min_space g (map block R) ≤ n
  fits (yes h) = omega (arith, high (length R - 1) 0 (omega arith), packed_first G (laid_proper R L) (rw length-map h))
  fits (no h) = omega (arith, min_space_none g (map block R) (rw length-map (omega arith)))

  -- each run's offset is its distance from its packed place
  laid_arranged : (o : ℕ → ℕ) × Arranged g n (map block R) o × (placed (packed g (map block R)) o ≡ R)
  unfolding positions
  laid_arranged = (
    o,
    record {
      fits = fits (dec_lt 0 (length R));
      below = λ b h. omega (arith, high (length R - suc b) b (omega (arith, rw length-map at h)));
      apart = λ a b h l.
          let k : b < length R = rw length-map at l in
          subst₂ (λ r q. clash g r q ≡ false) (sym (moved_is a (omega arith))) (sym (moved_is b k)) (is_clear g (at R a) (at R b) (L.apart a b h k));
    },
    ext_get_or _ (placed P o) R lengths (λ b h. placed_at P o b (omega (arith, placed_length P o)) ∙ moved_is b (omega (arith, lengths))),
  )
    where
      P : List Run
      P = packed g (map block R)

      o : ℕ → ℕ
      o b = (at R b).start - (at P b).start

      lengths : length (placed P o) ≡ length R
      lengths = placed_length P o ∙ packed_length g (map block R) ∙ length-map R block

      moved_is : (b : ℕ) → b < length R → moved (at P b) (o b) ≡ at R b
      moved_is b h = run_same (omega (arith, low b h)) (ap (λ x. x.size) (block_is b)) (ap (λ x. x.color) (block_is b))

-- a line that keeps the gap is the rendering of an arrangement of its clue
pub arranged : {g : ℕ → ℕ → ℕ} → Gap g → (l : List ℕ) → Spaced g l → (o : ℕ → ℕ) × Arranged g (length l) (runs l) o × (render g (length l) (runs l) o ≡ l)
arranged {g} G l s =
    let S = shown G l s in
    let bs = map block S.found in
    let x = laid_arranged G S.found S.laid in
    let cells : (t : ℕ) → t < length (render g (length l) bs x.0) → get_or (render g (length l) bs x.0) t 0 ≡ get_or l t 0
    = λ t h. render_cell g (length l) bs x.0 t (rw render_length at h) ∙ ap (λ R. color_at R t) x.2 ∙ S.cells t (omega arith) in
    subst (λ bs. (o : ℕ → ℕ) × Arranged g (length l) bs o × (render g (length l) bs o ≡ l)) S.read
    (x.0, x.1, ext_get_or 0 (render g (length l) bs x.0) l (render_length g (length l) bs x.0) cells)
