-- Runs laid on a line with their gaps: the cells show each of them, and no other runs.
use mathlib.Core.Path.{◌≡◌, refl, sym, ap, ap₂, subst, ◌∙◌}
use mathlib.Core.Bool.{true, false, and-false}
use mathlib.Core.List.{List, [], ◌∷◌}
use Prim.Native.Nat.{ℕ, zero, suc, ◌+◌, ◌≤◌, ◌<◌}
use native.Mathlib.Omega.{arith}
use native.Mathlib.Nat.{le_refl}
use native.Mathlib.Decide.{dec_le, dec_lt}
use lib.ListN.{length}
use borrow.Author.Tests.{le-ltb}
use Rattle.lines.specs.Clue.{Run, end}
use Rattle.lines.specs.Arrangement.{Gap, at, covers, color_at}
use Rattle.lines.proofs.Moving.{covers_is, is_covered}

-- runs in order, each with a size and a colour, within n cells and apart by their gap
pub record Laid (g : ℕ → ℕ → ℕ) (n : ℕ) (R : List Run) : Type 0 where
  pub sized : (b : ℕ) → b < length R → 0 < (at R b).size
  pub colored : (b : ℕ) → b < length R → 0 < (at R b).color
  pub within : (b : ℕ) → b < length R → end (at R b) ≤ n
  pub apart : (a b : ℕ) → a < b → b < length R → end (at R a) + g (at R a).color (at R b).color ≤ (at R b).start

-- ---- the colour of a cell

-- a run of the cell's colour covers it
pub record Covered (R : List Run) (t : ℕ) : Type 0 where
  pub by : ℕ
  pub below : by < length R
  pub low : (at R by).start ≤ t
  pub high : t < end (at R by)
  pub color_is : (at R by).color ≡ color_at R t

pub color_here : (r : Run) (R : List Run) (t : ℕ) → r.start ≤ t → t < end r → color_at (r ∷ R) t ≡ r.color
unfolding color_at
color_here r R t a b = rw (is_covered r t a b)

pub color_past : (r : Run) (R : List Run) (t : ℕ) → end r ≤ t → color_at (r ∷ R) t ≡ color_at R t
unfolding color_at
color_past r R t h = rw (le-ltb t (end r) h, and-false)

-- a cell with a colour is covered
pub painted : (R : List Run) (t : ℕ) → 0 < color_at R t → Covered R t
unfolding color_at
painted [] t h = absurd (omega arith)
painted (r ∷ R) t h = (elim (covers r t) as (λ x. covers r t ≡ x → Covered (r ∷ R) t) [
  | true ↦ λ e. let i = covers_is r t e in record { by = 0; below = omega arith; low = i.0; high = i.1; color_is = rw e }
  | false ↦ λ e.
      let c = painted R t (rw e at h) in
      record { by = suc c.by; below = omega arith; low = c.low; high = c.high; color_is = rw e c.color_is }
]) refl

-- a cell that no run covers is blank
pub blank : (R : List Run) (t : ℕ) → ((b : ℕ) → b < length R → (at R b).start ≤ t → t < end (at R b) → ⊥) → color_at R t ≡ 0
blank R t h = elim (dec_lt 0 (color_at R t)) [
  | no l ↦ omega arith
  | yes l ↦ let c = painted R t l in absurd (h c.by c.below c.low c.high)
]

module _ {g : ℕ → ℕ → ℕ} {n : ℕ} where
  laid_tail : {r : Run} {R : List Run} → Laid g n (r ∷ R) → Laid g n R
  laid_tail L = record {
    sized = λ b l. L.sized (suc b) (omega arith);
    colored = λ b l. L.colored (suc b) (omega arith);
    within = λ b l. L.within (suc b) (omega arith);
    apart = λ a b h l. L.apart (suc a) (suc b) (omega arith) (omega arith);
  }

  -- a cell in a laid run has its colour
  pub paints : (R : List Run) → Laid g n R → (b t : ℕ) → b < length R → (at R b).start ≤ t → t < end (at R b) → color_at R t ≡ (at R b).color
  paints [] L b t l i j = absurd (omega arith)
  paints (r ∷ R) L zero t l i j = color_here r R t i j
  paints (r ∷ R) L (suc b) t l i j =
      color_past r R t (omega (arith, L.apart 0 (suc b) (omega arith) l)) ∙ paints R (laid_tail L) b t (omega arith) i j

  -- the runs after the first leave its cells blank
  before_blank : (r : Run) (R : List Run) → Laid g n (r ∷ R) → (t : ℕ) → t < end r → color_at R t ≡ 0
  before_blank r R L t h = blank R t (λ b l i j. omega (arith, L.apart 0 (suc b) (omega arith) (omega arith)))

-- ---- a line shows one list of runs

pub run_same : {r q : Run} → r.start ≡ q.start → r.size ≡ q.size → r.color ≡ q.color → r ≡ q
run_same a b c = λ i. record { start = a i; size = b i; color = c i }

first_least : {g : ℕ → ℕ → ℕ} {n : ℕ} (q : Run) (Q : List Run) → Laid g n (q ∷ Q) → (b : ℕ) → b < length (q ∷ Q) → q.start ≤ (at (q ∷ Q) b).start
first_least q Q M zero l = le_refl _
first_least q Q M (suc b) l = omega (arith, M.apart 0 (suc b) (omega arith) l)

module _ {g : ℕ → ℕ → ℕ} (G : Gap g) where
  -- no run of its colour covers the cell at a run's end
  end_other : {n : ℕ} (q : Run) (Q : List Run) → Laid g n (q ∷ Q) → (b : ℕ) → b < length (q ∷ Q) → q.color ≡ (at (q ∷ Q) b).color
      → (at (q ∷ Q) b).start ≤ end q → end q < end (at (q ∷ Q) b) → ⊥
  end_other q Q M zero l e h k = omega arith
  end_other q Q M (suc b) l e h k =
      omega (arith, M.apart 0 (suc b) (omega arith) l, ap (λ (c : ℕ). g q.color c) e, G.same q.color (M.colored 0 (omega arith)))

  module _ {n m : ℕ} (r q : Run) (R Q : List Run) (L : Laid g n (r ∷ R)) (M : Laid g m (q ∷ Q)) (e : (t : ℕ) → color_at (r ∷ R) t ≡ color_at (q ∷ Q) t) where
    color_of_lem : (t : ℕ) → r.start ≤ t → t < end r → color_at (q ∷ Q) t ≡ r.color
    color_of_lem t a b = sym (e t) ∙ color_here r R t a b

    -- a cell of r is covered in the other line too
    cover : (t : ℕ) → r.start ≤ t → t < end r → Covered (q ∷ Q) t
    cover t a b = painted (q ∷ Q) t (omega (arith, color_of_lem t a b, L.colored 0 (omega arith)))

    start_most : q.start ≤ r.start
    start_most =
        let c = cover r.start (le_refl _) (omega (arith, L.sized 0 (omega arith))) in
        omega (arith, first_least q Q M c.by c.below)

    size_most : r.start ≡ q.start → r.color ≡ q.color → r.size ≤ q.size
    size_most a b = elim (dec_le r.size q.size) [
      | yes l ↦ l
      | no l ↦
          let c = cover (end q) (omega arith) (omega arith) in
          absurd (end_other q Q M c.by c.below (sym b ∙ sym (color_of_lem (end q) (omega arith) (omega arith)) ∙ sym c.color_is) c.low c.high)
    ]

  -- without the first run the cells are still the same
  rest_same : {n m : ℕ} (r : Run) (R Q : List Run) → Laid g n (r ∷ R) → Laid g m (r ∷ Q) → ((t : ℕ) → color_at (r ∷ R) t ≡ color_at (r ∷ Q) t)
      → (t : ℕ) → color_at R t ≡ color_at Q t
  rest_same r R Q L M e t = elim (dec_lt t (end r)) [
    | yes l ↦ before_blank r R L t l ∙ sym (before_blank r Q M t l)
    | no l ↦ sym (color_past r R t (omega arith)) ∙ e t ∙ color_past r Q t (omega arith)
  ]

  -- a run shows
  first_shown : {n : ℕ} (r : Run) (R : List Run) → Laid g n (r ∷ R) → ((t : ℕ) → color_at (r ∷ R) t ≡ color_at [] t) → ⊥
  unfolding color_at
  first_shown r R L e =
      omega (arith, L.colored 0 (omega arith), e r.start, color_here r R r.start (le_refl _) (omega (arith, L.sized 0 (omega arith))))

  -- laid runs that show the same cells are the same
  pub same_runs : {n m : ℕ} (R Q : List Run) → Laid g n R → Laid g m Q → ((t : ℕ) → color_at R t ≡ color_at Q t) → R ≡ Q
  same_runs [] [] L M e = refl
  same_runs [] (q ∷ Q) L M e = absurd (first_shown q Q M (λ t. sym (e t)))
  same_runs (r ∷ R) [] L M e = absurd (first_shown r R L e)
  same_runs {m} (r ∷ R) (q ∷ Q) L M e =
      let e' : (t : ℕ) → color_at (q ∷ Q) t ≡ color_at (r ∷ R) t = λ t. sym (e t) in
      let a : r.start ≡ q.start = omega (arith, start_most r q R Q L M e, start_most q r Q R M L e') in
      let c : r.color ≡ q.color = sym (color_of_lem r q R Q L M e r.start (le_refl _) (omega (arith, L.sized 0 (omega arith))))
      ∙ color_here q Q r.start (omega arith) (omega (arith, M.sized 0 (omega arith))) in
      let b : r.size ≡ q.size = omega (arith, size_most r q R Q L M e a c, size_most q r Q R M L e' (sym a) (sym c)) in
      let u : q ≡ r = run_same (sym a) (sym b) (sym c) in
      ap₂ ◌∷◌ (sym u) (same_runs R Q (laid_tail L) (laid_tail M)
      (rest_same r R Q L (subst (λ x. Laid g m (x ∷ Q)) u M) (subst (λ x. (t : ℕ) → color_at (r ∷ R) t ≡ color_at (x ∷ Q) t) u e)))
