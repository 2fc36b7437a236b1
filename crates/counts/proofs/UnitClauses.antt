-- Family 10: per cell 1 if a solved colour, k if solved blank, else its excluded colours.
use mathlib.Core.Path.{◌≡◌, refl, sym, ap, ◌∙◌}
use mathlib.Core.Bool.{Bool, true, false, not, cond, ◌&&◌, ◌||◌, true≢false, false≢true}
use mathlib.Core.List.{List, [], ◌∷◌}
use Prim.Native.Nat.{ℕ, zero, suc, ◌+◌, ◌-◌, ◌*◌, ◌^◌, ◌≤◌, ◌<◌}
use native.Mathlib.Omega.{arith}
use native.Mathlib.Numerals.{one-add}
use native.Mathlib.Nat.{mul_comm, mul-one}
use native.Mathlib.Decide.{ℕ_discrete}
use lib.Bits.{bit_and, bit_or, and_le_l, and_le_r}
use lib.Count.{ones}
use lib.ListN.{length, get_or}
use borrow.Author.Tests.{eq-eqb, ne_eqb, eqb-true}
use Rattle.lists.specs.Each.{each, when, sum}
use Rattle.lists.proofs.Sums.{sum_both, sum_at, sum_parts, sum_same, sum_below, sum_plus, sum_constant, length_each, length_when}
use Rattle.lists.proofs.Parts.{place_within}
use Rattle.lists.proofs.Tests.{both}
use Rattle.literals.specs.Literals.{positive, negative}
use Rattle.bits.specs.Bits.{bit, powers, solved}
use Rattle.bits.proofs.SetBits.{bit_and_lem, bit_or_lem, bit_power, bit_some, with_zero, with_within}
use Rattle.bits.proofs.LowestFirst.{powers_count, same_bits}
use Rattle.lines.specs.Clue.{Block}
use Rattle.puzzles.specs.Puzzle.{Puzzle, width, height}
use Rattle.puzzles.specs.Colors.{with_lines, color_set, off_solved}
use Rattle.puzzles.specs.Checks.{colors}
use Rattle.puzzles.specs.Good.{Good}
use Rattle.puzzles.proofs.ColorSets.{set_none, set_some, good_known}
use Rattle.numbering.specs.Variables.{palette, hues, hue, cell_variable}
use Rattle.cells.specs.Cells.{precomputed, mask_at, precomputed_cells}
use Rattle.counts.specs.Formulas.{excluded, units_by, unit_count}
use Rattle.counts.proofs.OverColors.{over_colors, palette_count}
use Rattle.counts.proofs.Literals.{HasEach, one_has, each_has, when_has}

-- how many bits of a mask are set, and how many of them from bit 1 on
pub bits_set : (mask : ℕ) → length (powers mask) ≡ cond (bit mask 0) 1 0 + sum 31 (λ k. cond (bit mask (suc k)) 1 0)
unfolding powers
bits_set mask =
    length_each 32 _ ∙ sum_same 32 _ (λ k. cond (bit mask k) 1 0) (λ k _. length_when (bit mask k) (2 ^ k))
    ∙ sum_plus 1 31 (λ k. cond (bit mask k) 1 0)
    ∙ unfold sum in omega (arith, sum_same 31 (λ k. cond (bit mask (1 + k)) 1 0) (λ k. cond (bit mask (suc k)) 1 0) (λ k _. rw (one-add k)))

-- the colours of a set that a mask has
pub included : ℕ → ℕ → ℕ
included K mask = sum 31 (λ k. cond (bit K (suc k)) (cond (bit mask (suc k)) 1 0) 0)

-- ---- as set bits

module _ (K : ℕ) (small : K < 2 ^ 32) (blank : bit K 0 ≡ false) where
  set_ones : (m : ℕ) → m < 2 ^ 32 → bit m 0 ≡ false → ones m ≡ sum 31 (λ k. cond (bit m (suc k)) 1 0)
  set_ones m l b = omega (arith, powers_count m l, rw b at (bits_set m))

  pub palette_ones : length (palette K) ≡ ones K
  palette_ones = palette_count K ∙ sym (set_ones K small blank)

  included_ones : (mask : ℕ) → ones (bit_and K mask) ≡ included K mask
  unfolding included
  included_ones mask =
      set_ones (bit_and K mask) (omega (arith, and_le_l K mask)) (bit_and_lem K mask 0 ∙ rw blank)
      ∙ sum_same 31 _ _ (λ k _. rw (bit_and_lem K mask (suc k)) (cases (bit K (suc k)) (bit mask (suc k))))
    where
      cases : (x y : Bool) → ◌≡◌ {A = ℕ} (cond (x && y) 1 0) (cond x (cond y 1 0) 0)
      cases true y = refl
      cases false y = refl

  excluded_ones : (mask : ℕ) → excluded K mask + ones (bit_and K mask) ≡ ones K
  unfolding excluded included
  excluded_ones mask =
      rw (included_ones mask, over_colors (λ c. cond (bit mask c) 0 1) K)
      (sym (sum_both 31 (λ k. cond (bit K (suc k)) (cond (bit mask (suc k)) 0 1) 0) (λ k. cond (bit K (suc k)) (cond (bit mask (suc k)) 1 0) 0))
      ∙ sum_same 31 _ _ (λ k _. cases (bit K (suc k)) (bit mask (suc k)))
      ∙ sym (set_ones K small blank))
    where
      cases : (x y : Bool) → ◌≡◌ {A = ℕ} (cond x (cond y 0 1) 0 + cond x (cond y 1 0) 0) (cond x 1 0)
      cases true true = refl
      cases true false = refl
      cases false y = refl

  -- what is counted of a cell
  module _ (mask : ℕ) where
    pub units_most_ones : ones (bit_and K mask) ≤ ones K
    units_most_ones = omega (arith, excluded_ones mask)

    pub units_unsolved : solved mask ≡ false → ones K - ones (bit_and K mask) ≡ units_by K mask
    unfolding units_by
    units_unsolved n = rw n (omega (arith, excluded_ones mask))

    module _ (e : solved mask ≡ true) where
      pub units_blank : bit mask 0 ≡ true → ones K ≡ units_by K mask
      unfolding units_by
      units_blank b = rw (e, b) (sym palette_ones)

      pub units_color : bit mask 0 ≡ false → 1 ≡ units_by K mask
      unfolding units_by
      units_color b = rw (e, b)

-- ---- of a good puzzle

set_nonzero : (rows : List (List Block)) → color_set rows ≡ 0 → ⊥
set_nonzero rows e = elim (ℕ_discrete (with_lines 0 rows) 0) [
  | yes q ↦ omega (arith, e, set_none rows q)
  | no q ↦ q (sym (set_some rows q) ∙ e)
]

module _ (z : Puzzle) (G : Good z) where
  pub hues_ones : hues z ≡ ones (colors z)
  hues_ones = palette_ones (colors z) (good_known z G).small (good_known z G).blank

  -- there is a colour
  pub hues_some : 0 < hues z
  hues_some = elim (ℕ_discrete (hues z) 0) [
    | yes e ↦ absurd (set_nonzero z.rows (same_bits (colors z) 0 (good_known z G).small (omega arith) (λ k h b. none e k h b) (λ k _ q. absurd (omega (arith, bit_some 0 k q)))))
    | no e ↦ omega arith
  ]
    where
      none : hues z ≡ 0 → (k : ℕ) → k < 32 → bit (colors z) k ≡ true → bit 0 k ≡ true
      none e zero h b = absurd (false≢true (sym (good_known z G).blank ∙ b))
      none e (suc k) h b =
          let v : ◌≡◌ {A = ℕ} (cond (bit (colors z) (suc k)) 1 0) 1 = rw b in
          absurd (omega (arith, e, v, palette_count (colors z), sum_at 31 (λ k. cond (bit (colors z) (suc k)) 1 0) k (omega arith)))

-- ---- a cell solved with a colour of the set

module _ (K mask : ℕ) (small : K < 2 ^ 32) (s : solved mask ≡ true) (b : bit mask 0 ≡ false) (o : off_solved K mask ≡ false) where
  abbrev met : ℕ
  met = bit_and mask (bit_or K 1)

  met_small : met < 2 ^ 32
  met_small = omega (arith, and_le_r mask (bit_or K 1), with_zero K, with_within K 0 small)

  met_some : met ≡ 0 → ⊥
  unfolding off_solved
  met_some e = true≢false (sym (rw (s, eq-eqb met 0 e)) ∙ o)

  met_bit : (k : ℕ) → bit met (suc k) ≡ true → (bit K (suc k) ≡ true) × (bit mask (suc k) ≡ true)
  met_bit k e =
      let t = both (bit mask (suc k)) (bit (bit_or K 1) (suc k)) (sym (bit_and_lem mask (bit_or K 1) (suc k)) ∙ e) in
      (either (bit K (suc k)) (sym (bit_or_lem K 1 (suc k)) ∙ t.1), t.0)
    where
      either : (x : Bool) → (x || bit (2 ^ 0) (suc k)) ≡ true → x ≡ true
      either true q = refl
      either false q = absurd (false≢true (sym (bit_power 0 (suc k) ∙ ne_eqb (suc k) 0 (λ e. omega arith)) ∙ q))

  one_most : included K mask ≤ 1
  unfolding included solved
  one_most =
      omega (
        arith,
        sum_below 31 (λ k. cond (bit K (suc k)) (cond (bit mask (suc k)) 1 0) 0) (λ k. cond (bit mask (suc k)) 1 0) (λ k _. less (bit K (suc k)) (bit mask (suc k))),
        low,
        eqb-true (length (powers mask)) 1 s,
      )
    where
      low : length (powers mask) ≡ 0 + sum 31 (λ k. cond (bit mask (suc k)) 1 0)
      low = rw b at (bits_set mask)

      less : (x y : Bool) → cond x (cond y 1 0) 0 ≤ cond y 1 0
      less true y = omega arith
      less false true = omega arith
      less false false = omega arith

  -- the mask has a colour of the set
  pub solved_some : ((k : ℕ) → k < 31 → bit K (suc k) ≡ true → bit mask (suc k) ≡ true → ⊥) → ⊥
  solved_some n = met_some (same_bits met 0 met_small (omega arith) none (λ k _ q. absurd (omega (arith, bit_some 0 k q))))
    where
      none : (k : ℕ) → k < 32 → bit met k ≡ true → bit 0 k ≡ true
      none zero h q = absurd (false≢true (sym b ∙ (both (bit mask 0) (bit (bit_or K 1) 0) (sym (bit_and_lem mask (bit_or K 1) 0) ∙ q)).0))
      none (suc k) h q = absurd (n k (omega arith) (met_bit k q).0 (met_bit k q).1)

  one_least : included K mask ≡ 0 → ⊥
  unfolding included
  one_least e = solved_some (λ k h p q.
      let v : ◌≡◌ {A = ℕ} (cond (bit K (suc k)) (cond (bit mask (suc k)) 1 0) 0) 1 = rw (p, q) in
      omega (arith, e, v, sum_at 31 (λ k. cond (bit K (suc k)) (cond (bit mask (suc k)) 1 0) 0) k h))

  pub solved_one : included K mask ≡ 1
  solved_one = elim (ℕ_discrete (included K mask) 0) [
    | yes e ↦ absurd (one_least e)
    | no e ↦ omega (arith, one_most)
  ]

-- ---- the clauses of a cell

-- of each colour
precomputed_length : (mask c v : ℕ) → length (precomputed mask c v) ≡ cond (solved mask) (cond (bit mask 0) 1 (cond (bit mask c) 1 0)) (cond (bit mask c) 0 1)
unfolding precomputed
precomputed_length mask c v = cases (solved mask) (bit mask 0) (bit mask c)
  where
    cases : (s b m : Bool) → length (cond s (cond b ((negative v ∷ []) ∷ []) (when m ((positive v ∷ []) ∷ []))) (when (not m) ((negative v ∷ []) ∷ []))) ≡ cond s (cond b 1 (cond m 1 0)) (cond m 0 1)
    cases true true m = refl
    cases true false true = refl
    cases true false false = refl
    cases false b true = refl
    cases false b false = refl

-- of all colours
cell_units : (z : Puzzle) (K : ℕ) → K ≡ colors z → K < 2 ^ 32 → (mask : ℕ) → off_solved K mask ≡ false → (s b : Bool) → solved mask ≡ s → bit mask 0 ≡ b
    → sum (hues z) (λ r. cond s (cond b 1 (cond (bit mask (hue z r)) 1 0)) (cond (bit mask (hue z r)) 0 1)) ≡ cond s (cond b (hues z) 1) (excluded (colors z) mask)
unfolding excluded included
cell_units z K e small mask o true true p q = sum_constant (hues z) 1 ∙ mul-one (hues z)
cell_units z K e small mask o true false p q = over_colors (λ c. cond (bit mask c) 1 0) (colors z) ∙ ap (λ (k : ℕ). included k mask) (sym e) ∙ solved_one K mask small p q o
cell_units z K e small mask o false b p q = refl

pub cells_units : (z : Puzzle) → Good z → length (precomputed_cells z) ≡ unit_count z
unfolding precomputed_cells units_by
cells_units z G =
    let w = width z in
    let h = height z in
    let mask : ℕ → ℕ = λ i. get_or z.masks i 0 in
    let cell : (y x : ℕ) → y < h → x < w → length (each (hues z) (λ r. precomputed (mask_at z x y) (hue z r) (cell_variable z x y r))) ≡ units_by (colors z) (mask (y * w + x)) = λ y x j k.
    length_each (hues z) _ ∙ sum_same (hues z) _ _ (λ r _. precomputed_length (mask_at z x y) (hue z r) (cell_variable z x y r))
    ∙ cell_units z (colors z) refl (good_known z G).small (mask_at z x y) (G.solved_known (y * w + x) (omega (arith, G.area, place_within h w y x j k, mul_comm h w))) (solved (mask_at z x y)) (bit (mask_at z x y) 0) refl refl in
    length_each h _
    ∙ sum_same h _ _ (λ y j. length_each w _ ∙ sum_same w _ _ (λ x k. cell y x j k))
    ∙ sum_parts h w (λ i. units_by (colors z) (mask i))
    ∙ ap (λ (n : ℕ). sum n (λ i. units_by (colors z) (mask i))) (mul_comm h w ∙ sym G.area)

-- one literal in each clause
pub units_ones : (z : Puzzle) → HasEach 1 (precomputed_cells z)
unfolding precomputed_cells precomputed
units_ones z = each_has 1 (height z) _ (λ y _. each_has 1 (width z) _ (λ x _. each_has 1 (hues z) _ (λ r _. ones (solved (mask_at z x y)) (bit (mask_at z x y) 0) (bit (mask_at z x y) (hue z r)) (cell_variable z x y r))))
  where
    ones : (s b m : Bool) (v : ℕ) → HasEach 1 (cond s (cond b ((negative v ∷ []) ∷ []) (when m ((positive v ∷ []) ∷ []))) (when (not m) ((negative v ∷ []) ∷ [])))
    ones true true m v = one_has 1 _ refl
    ones true false m v = when_has 1 m _ refl
    ones false b m v = when_has 1 (not m) _ refl
