-- What an arrangement shows: its blocks, each where it is placed, and nothing else.
use mathlib.Core.Path.{◌≡◌, refl, sym, ap, subst₂, ◌∙◌}
use mathlib.Core.Bool.{true}
use mathlib.Core.List.{List, [], ◌∷◌, map}
use Prim.Native.Nat.{ℕ, zero, suc, ◌+◌, ◌≤◌, ◌<◌}
use native.Mathlib.Omega.{arith}
use native.Mathlib.Decide.{dec_lt}
use lib.ListN.{length, get_or, get_or-eq_default}
use Rattle.lists.proofs.Eaches.{length_tab, get_or_tab}
use Rattle.lines.specs.Clue.{Block, Run, end, packed}
use Rattle.lines.specs.Arrangement.{Gap, Proper, Arranged, Spaced, at, moved, covers, placed, color_at, render}
use Rattle.lines.proofs.Packing.{block, packed_length, packed_sized, packed_colored}
use Rattle.lines.proofs.Moving.{covers_is, is_covered, moved_within, clear_is}
use Rattle.lines.proofs.Laying.{Laid, painted, blank, paints}

-- ---- placed runs, by index

pub placed_length : (R : List Run) (o : ℕ → ℕ) → length (placed R o) ≡ length R
unfolding placed
placed_length [] o = refl
placed_length (r ∷ R) o = ap suc (placed_length R _)

pub placed_blocks : (R : List Run) (o : ℕ → ℕ) → map block (placed R o) ≡ map block R
unfolding placed
placed_blocks [] o = refl
placed_blocks (r ∷ R) o = ap (λ (l : List Block). block r ∷ l) (placed_blocks R _)

pub placed_at : (R : List Run) (o : ℕ → ℕ) (b : ℕ) → b < length R → at (placed R o) b ≡ moved (at R b) (o b)
unfolding placed
placed_at [] o b h = absurd (omega arith)
placed_at (r ∷ R) o zero h = refl
placed_at (r ∷ R) o (suc b) h = placed_at R _ b (omega arith)

-- ---- the line of an arrangement

pub render_length : (g : ℕ → ℕ → ℕ) (n : ℕ) (bs : List Block) (o : ℕ → ℕ) → length (render g n bs o) ≡ n
unfolding render
render_length g n bs o = length_tab n _

pub render_cell : (g : ℕ → ℕ → ℕ) (n : ℕ) (bs : List Block) (o : ℕ → ℕ) (t : ℕ) → t < n → get_or (render g n bs o) t 0 ≡ color_at (placed (packed g bs) o) t
unfolding render
render_cell g n bs o t h = get_or_tab n _ 0 t h

module _ {g : ℕ → ℕ → ℕ} (G : Gap g) {bs : List Block} (p : Proper bs) {n : ℕ} {o : ℕ → ℕ} (A : Arranged g n bs o) where
  below : (b : ℕ) → b < length (placed (packed g bs) o) → b < length bs
  below b l = omega (arith, placed_length (packed g bs) o, packed_length g bs)

  at_is : (b : ℕ) → b < length bs → moved (at (packed g bs) b) (o b) ≡ at (placed (packed g bs) o) b
  at_is b l = sym (placed_at (packed g bs) o b (omega (arith, packed_length g bs)))

  -- its runs are laid on the line
  pub arranged_laid : Laid g n (placed (packed g bs) o)
  arranged_laid = record {
    sized = λ b l. rw (← at_is b (below b l)) (packed_sized G p b (below b l));
    colored = λ b l. rw (← at_is b (below b l)) (packed_colored G p b (below b l));
    within = λ b l. rw (← at_is b (below b l)) (moved_within G p n A.fits (o b) (A.below b (below b l)) b (below b l));
    apart = λ a b h l.
        let k = below b l in
        subst₂ (λ r q. end r + g r.color q.color ≤ q.start) (at_is a (omega arith)) (at_is b k)
        (clear_is g (moved (at (packed g bs) a) (o a)) (moved (at (packed g bs) b) (o b)) (A.apart a b h k));
  }

  -- its cells, with blanks after them
  pub render_shows : (t : ℕ) → get_or (render g n bs o) t 0 ≡ color_at (placed (packed g bs) o) t
  render_shows t = elim (dec_lt t n) [
    | yes h ↦ render_cell g n bs o t h
    | no h ↦ get_or-eq_default (render g n bs o) 0 (omega (arith, render_length g n bs o))
        ∙ sym (blank (placed (packed g bs) o) t (λ b l i j. omega (arith, arranged_laid.within b l)))
  ]

  -- a cell of colour c is covered by a block of that colour
  pub cell_covered : (t c : ℕ) → 0 < c → get_or (render g n bs o) t 0 ≡ c
      → (b : ℕ) × (b < length bs) × ((at (packed g bs) b).color ≡ c) × (covers (moved (at (packed g bs) b) (o b)) t ≡ true)
  cell_covered t c h e =
      let q = sym (render_shows t) ∙ e in
      let C = painted (placed (packed g bs) o) t (omega arith) in
      let k = below C.by C.below in (
        C.by,
        k,
        ap (λ r. r.color) (at_is C.by k) ∙ C.color_is ∙ q,
        ap (λ r. covers r t) (at_is C.by k) ∙ is_covered (at (placed (packed g bs) o) C.by) t C.low C.high,
      )

  -- and a cell that a block covers has its colour
  pub covered_cell : (t b : ℕ) → b < length bs → covers (moved (at (packed g bs) b) (o b)) t ≡ true → get_or (render g n bs o) t 0 ≡ (at (packed g bs) b).color
  covered_cell t b l c =
      let i = covers_is (at (placed (packed g bs) o) b) t (sym (ap (λ r. covers r t) (at_is b l)) ∙ c) in
      render_shows t
      ∙ paints (placed (packed g bs) o) arranged_laid b t (omega (arith, placed_length (packed g bs) o, packed_length g bs)) i.0 i.1
      ∙ sym (ap (λ r. r.color) (at_is b l))

  -- two different colours touch only where their gap is 0
  pub render_spaced : Spaced g (render g n bs o)
  render_spaced t h x y d =
      let Q = placed (packed g bs) o in
      let c = painted Q t (omega (arith, render_shows t)) in
      let e = painted Q (suc t) (omega (arith, render_shows (suc t))) in
      elim (dec_lt c.by e.by) [
        | yes l ↦ rw (render_shows t, render_shows (suc t), ← c.color_is, ← e.color_is) (omega (arith, arranged_laid.apart c.by e.by l e.below))
        | no k ↦ elim (dec_lt e.by c.by) [
          | yes l ↦ absurd (omega (arith, arranged_laid.apart e.by c.by l c.below))
          | no l ↦
              let u : c.by ≡ e.by = omega arith in
              absurd (d (render_shows t ∙ sym c.color_is ∙ ap (λ b. (at Q b).color) u ∙ e.color_is ∙ sym (render_shows (suc t))))
        ]
      ]
