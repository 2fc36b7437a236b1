-- What reading finds: runs laid on the line, with its cells; and laid runs are found again.
use mathlib.Core.Path.{◌≡◌, refl, sym, ap, ap₂, subst, ◌∙◌}
use mathlib.Core.Bool.{cond}
use mathlib.Core.List.{List, [], ◌∷◌, ◌++◌, map, append-nil}
use Prim.Native.Nat.{ℕ, zero, suc, ◌+◌, ◌-◌, ◌≤◌, ◌<◌}
use native.Mathlib.Omega.{arith}
use native.Mathlib.Nat.{le_refl}
use native.Mathlib.Decide.{ℕ_discrete, dec_lt}
use lib.ListN.{length, get_or, length-map}
use lib.Dec.{eqb}
use borrow.Author.Tests.{eq-eqb, ne_eqb}
use Rattle.lines.specs.Clue.{Block, Run, end, gap}
use Rattle.lines.specs.Line.{run, runs_from, runs}
use Rattle.lines.specs.Arrangement.{Gap, Proper, Spaced, at, color_at}
use Rattle.lines.proofs.Packing.{base_gap, block, block_at_lem}
use Rattle.lines.proofs.Laying.{Laid, color_here, color_past, blank, paints, same_runs}

-- the first of them is apart from the others too
first_apart : (g : ℕ → ℕ → ℕ) (n : ℕ) (r : Run) (R : List Run) → Laid g n R
    → ((b : ℕ) → b < length R → end r + g r.color (at R b).color ≤ (at R b).start)
    → (a b : ℕ) → a < b → b < length (r ∷ R) → end (at (r ∷ R) a) + g (at (r ∷ R) a).color (at (r ∷ R) b).color ≤ (at (r ∷ R) b).start
first_apart g n r R L h a zero m l = absurd (omega arith)
first_apart g n r R L h zero (suc b) m l = h b (omega arith)
first_apart g n r R L h (suc a) (suc b) m l = L.apart a b (omega arith) (omega arith)

-- one more run before laid runs
laid_first : (g : ℕ → ℕ → ℕ) (n : ℕ) (r : Run) (R : List Run) → 0 < r.size → 0 < r.color → end r ≤ n → Laid g n R
    → ((b : ℕ) → b < length R → end r + g r.color (at R b).color ≤ (at R b).start) → Laid g n (r ∷ R)
laid_first g n r R k c e L h = record {
  sized = λ b. elim b as (λ b. b < length (r ∷ R) → 0 < (at (r ∷ R) b).size) [ zero ↦ λ l. k | suc b ↦ λ l. L.sized b (omega arith) ];
  colored = λ b. elim b as (λ b. b < length (r ∷ R) → 0 < (at (r ∷ R) b).color) [ zero ↦ λ l. c | suc b ↦ λ l. L.colored b (omega arith) ];
  within = λ b. elim b as (λ b. b < length (r ∷ R) → end (at (r ∷ R) b) ≤ n) [ zero ↦ λ l. e | suc b ↦ λ l. L.within b (omega arith) ];
  apart = first_apart g n r R L h;
}

-- the runs of a line from its cell s on, whose blocks are bs
pub record Shown (g : ℕ → ℕ → ℕ) (line : List ℕ) (s : ℕ) (bs : List Block) : Type 0 where
  pub found : List Run
  pub read : map block found ≡ bs
  pub laid : Laid g (length line) found
  pub low : (b : ℕ) → b < length found → s ≤ (at found b).start
  pub cells : (t : ℕ) → s ≤ t → color_at found t ≡ get_or line t 0

module _ {g : ℕ → ℕ → ℕ} (G : Gap g) (line : List ℕ) (spaced : Spaced g line) where
  shown_none : (s : ℕ) → ((t : ℕ) → s ≤ t → get_or line t 0 ≡ 0) → Shown g line s []
  unfolding color_at
  shown_none s h = record {
    found = [];
    read = refl;
    laid = record { sized = λ b l. absurd (omega arith); colored = λ b l. absurd (omega arith); within = λ b l. absurd (omega arith); apart = λ a b m l. absurd (omega arith) };
    low = λ b l. absurd (omega arith);
    cells = λ t l. sym (h t l);
  }

  module _ (s k : ℕ) (bs : List Block) (S : Shown g line (s + k) bs) where
    -- k blank cells come first
    shown_blank : ((t : ℕ) → s ≤ t → t < s + k → get_or line t 0 ≡ 0) → Shown g line s bs
    shown_blank here = record {
      found = S.found;
      read = S.read;
      laid = S.laid;
      low = λ b l. omega (arith, S.low b l);
      cells = λ t l. elim (dec_lt t (s + k)) [
        | yes m ↦ blank S.found t (λ b i h _. omega (arith, S.low b i)) ∙ sym (here t l m)
        | no m ↦ S.cells t (omega arith)
      ];
    }

    -- k cells of the colour c come first, and then another colour or blank
    shown_run : (c : ℕ) → 0 < k → 0 < c → s + k ≤ length line → ((t : ℕ) → s ≤ t → t < s + k → get_or line t 0 ≡ c) → (get_or line (s + k) 0 ≡ c → ⊥)
        → Shown g line s (record { size = k; color = c } ∷ bs)
    shown_run c k0 c0 e here other = record {
      found = r ∷ S.found;
      read = ap (λ (l : List Block). block r ∷ l) S.read;
      laid = laid_first g (length line) r S.found k0 c0 e S.laid apart;
      low = λ b. elim b as (λ b. b < length (r ∷ S.found) → s ≤ (at (r ∷ S.found) b).start) [ zero ↦ λ l. le_refl s | suc b ↦ λ l. omega (arith, S.low b (omega arith)) ];
      cells = λ t l. elim (dec_lt t (s + k)) [
        | yes m ↦ color_here r S.found t l m ∙ sym (here t l m)
        | no m ↦ color_past r S.found t (omega arith) ∙ S.cells t (omega arith)
      ];
    }
      where
        r : Run
        r = record { start = s; size = k; color = c }

        apart : (b : ℕ) → b < length S.found → s + k + g c (at S.found b).color ≤ (at S.found b).start
        apart b l = elim (dec_lt (s + k) (at S.found b).start) [
          | yes m ↦ omega (arith, G.most c (at S.found b).color)
          | no m ↦
              let i = S.low b l in
              let j = S.laid.sized b l in
              let t = s + k - 1 in
              let n : s + k ≡ suc t = omega arith in
              let u : get_or line t 0 ≡ c = here t (omega arith) (omega arith) in
              let v : get_or line (suc t) 0 ≡ (at S.found b).color = sym (S.cells (suc t) (omega arith)) ∙ paints S.found S.laid b (suc t) l (omega arith) (omega arith) in
              let z = spaced t (omega (arith, S.laid.within b l)) (omega arith) (omega (arith, S.laid.colored b l)) (λ q. other (ap (λ t. get_or line t 0) n ∙ sym q ∙ u)) in
              omega (arith, ap₂ g u v)
        ]

    -- what has ended, blank or not
    shown_then : (c : ℕ) → (0 < c → 0 < k) → s + k ≤ length line → ((t : ℕ) → s ≤ t → t < s + k → get_or line t 0 ≡ c) → (0 < c → get_or line (s + k) 0 ≡ c → ⊥)
        → Shown g line s (run k c ++ bs)
    unfolding run
    shown_then zero k0 e here other = shown_blank here
    shown_then (suc c) k0 e here other =
        rw (ne_eqb (suc c) 0 (λ q. omega arith)) (shown_run (suc c) (k0 (omega arith)) (omega arith) e here (other (omega arith)))

  -- reading on after k cells of the colour c
  shown_from : (l : List ℕ) (s k c : ℕ) → s + k + length l ≡ length line → (0 < c → 0 < k) → ((t : ℕ) → s ≤ t → t < s + k → get_or line t 0 ≡ c)
      → ((t i : ℕ) → t ≡ s + k + i → get_or line t 0 ≡ get_or l i 0) → Shown g line s (runs_from k c l)
  unfolding runs_from
  shown_from [] s k c e k0 here rest =
      let S = shown_none (s + k) (λ t m. rest t (t - (s + k)) (omega arith)) in
      rw append-nil at (shown_then s k [] S c k0 (omega arith) here (λ c0 q. omega (arith, rest (s + k) 0 (omega arith))))
  shown_from (x ∷ l) s k c e k0 here rest =
      go (λ q. shown_from l s (k + 1) c (omega arith) (λ _. omega arith) (more q) (λ t i u. rest t (suc i) (omega arith)))
      (shown_from l (s + k) 1 x (omega arith) (λ _. omega arith) (λ t a b. rest t 0 (omega arith)) (λ t i u. rest t (suc i) (omega arith)))
    where
      more : x ≡ c → (t : ℕ) → s ≤ t → t < s + (k + 1) → get_or line t 0 ≡ c
      more q t a b = elim (dec_lt t (s + k)) [ yes m ↦ here t a m | no m ↦ rest t 0 (omega arith) ∙ q ]

      go : (x ≡ c → Shown g line s (runs_from (k + 1) c l)) → Shown g line (s + k) (runs_from 1 x l)
          → Shown g line s (cond (eqb x c) (runs_from (k + 1) c l) (run k c ++ runs_from 1 x l))
      go grow next = elim (ℕ_discrete x c) [
        | yes q ↦ rw (eq-eqb x c q) (grow q)
        | no q ↦ rw (ne_eqb x c q) (shown_then s k _ next c k0 (omega arith) here (λ _ u. q (sym (rest (s + k) 0 (omega arith)) ∙ u)))
      ]

  -- the runs of a line, where they start
  pub shown : Shown g line 0 (runs line)
  unfolding runs
  shown = shown_from line 0 0 0 (omega arith) (λ h. h) (λ t a b. absurd (omega arith)) (λ t i q. ap (λ t. get_or line t 0) (q ∙ omega arith))

  -- laid runs are read from the line that shows them
  pub read_laid : {n : ℕ} (R : List Run) → Laid g n R → ((t : ℕ) → get_or line t 0 ≡ color_at R t) → runs line ≡ map block R
  read_laid R L e = sym shown.read ∙ ap (map block) (same_runs G shown.found R shown.laid L (λ t. shown.cells t (omega arith) ∙ e t))

-- laid runs are a clue's blocks
pub laid_proper : {g : ℕ → ℕ → ℕ} {n : ℕ} (R : List Run) → Laid g n R → Proper (map block R)
laid_proper R L = record {
  sizes = λ b h. omega (arith, ap (λ x. x.size) (block_at_lem R b), L.sized b (rw length-map at h));
  colors = λ b h. omega (arith, ap (λ x. x.color) (block_at_lem R b), L.colored b (rw length-map at h));
}

-- every line keeps the gap of document 01
pub base_spaced : (l : List ℕ) → Spaced gap l
unfolding gap
base_spaced l t h a b d = rw (ne_eqb (get_or l t 0) (get_or l (suc t) 0) d)

-- every block that is read has a size and a colour
pub runs_proper : (l : List ℕ) → Proper (runs l)
runs_proper l = let S = shown base_gap l (base_spaced l) in subst Proper S.read (laid_proper S.found S.laid)
