-- What family 10 says of a cell: it obeys its mask.
use mathlib.Core.Path.{◌≡◌, refl, sym, ap, ◌∙◌}
use mathlib.Core.Bool.{Bool, true, false, cond, false≢true, not-eq-not}
use mathlib.Core.Logic.{⊎_elim}
use Prim.Native.Nat.{ℕ, zero, suc, ◌+◌, ◌≤◌, ◌<◌}
use native.Mathlib.Omega.{arith}
use lib.Dec.{eqb}
use lib.ListN.{length, get_or}
use borrow.Author.Tests.{eq-eqb, ne_eqb, eqb-true}
use Rattle.bits.specs.Bits.{bit, powers, solved}
use Rattle.puzzles.specs.Puzzle.{Puzzle}
use Rattle.puzzles.specs.Colors.{off_solved}
use Rattle.puzzles.specs.Checks.{colors}
use Rattle.puzzles.proofs.ColorSets.{set_within}
use Rattle.numbering.specs.Variables.{palette, hues, hue}
use Rattle.counts.proofs.OverColors.{palette_count}
use Rattle.counts.proofs.UnitClauses.{bits_set, solved_some}
use Rattle.pictures.specs.Meaning.{MaskSays}
use Rattle.pictures.specs.Pictures.{IsColor, permits, obeys}
use Rattle.pictures.proofs.ColorsOfK.{palette_all, hue_known, hue_most, known_hue, color_cases, color_most}

-- ---- a solved mask has one bit

module _ (mask : ℕ) (s : solved mask ≡ true) where
  one_bit : cond (bit mask 0) 1 0 + length (palette mask) ≡ 1
  unfolding solved
  one_bit = omega (arith, eqb-true (length (powers mask)) 1 s, bits_set mask, palette_count mask)

  -- a solved blank has no colour
  blank_alone : bit mask 0 ≡ true → (c : ℕ) → suc c ≤ 31 → bit mask (suc c) ≡ true → ⊥
  blank_alone b c h e =
      let (r, i, _) = palette_all mask (suc c) (omega arith) h e in
      let v : ◌≡◌ {A = ℕ} (cond (bit mask 0) 1 0) 1 = rw b in
      omega (arith, one_bit)

  -- two set bits are the same
  bits_once : (c d : ℕ) → c ≤ 31 → d ≤ 31 → bit mask c ≡ true → bit mask d ≡ true → c ≡ d
  bits_once zero zero h i p q = refl
  bits_once zero (suc d) h i p q = absurd (blank_alone p d i q)
  bits_once (suc c) zero h i p q = absurd (blank_alone q c h p)
  bits_once (suc c) (suc d) h i p q =
      let (r, j, e) = palette_all mask (suc c) (omega arith) h p in
      let (t, k, f) = palette_all mask (suc d) (omega arith) i q in
      let u : r ≡ t = omega (arith, one_bit) in
      sym e ∙ ap (λ r. get_or (palette mask) r 0) u ∙ f

-- ---- obeying, by cases

module _ (mask c : ℕ) where
  obeys_solved : solved mask ≡ true → obeys mask c ≡ bit mask c
  unfolding obeys
  obeys_solved s = rw s

  module _ (s : solved mask ≡ false) where
    obeys_blank : c ≡ 0 → obeys mask c ≡ true
    unfolding obeys permits
    obeys_blank e = rw (s, eq-eqb c 0 e)

    obeys_color : 0 < c → obeys mask c ≡ bit mask c
    unfolding obeys permits
    obeys_color h = rw (s, ne_eqb c 0 (λ e. omega arith))

-- ---- the theorem

-- the unit clauses of a cell of colour c, of its r-th variable
abbrev UnitOf : Puzzle → ℕ → ℕ → ℕ → Type 0
UnitOf z mask c r = MaskSays mask (hue z r) (eqb c (hue z r))

module _ (z : Puzzle) (mask c : ℕ) (C : IsColor z c) where
  module _ (o : off_solved (colors z) mask ≡ false) (U : (r : ℕ) → r < hues z → UnitOf z mask c r) where
    told_blank : solved mask ≡ true → bit mask 0 ≡ true → c ≡ 0
    told_blank s b = ⊎_elim (λ e. e) (λ (r, h, e). absurd (false≢true (sym ((U r h).solved_blank s b) ∙ eq-eqb c (hue z r) (sym e)))) (color_cases z c C)

    told_color : solved mask ≡ true → bit mask 0 ≡ false → bit mask c ≡ true
    told_color s b = (not-eq-not {b = true}).0 (λ m.
        solved_some (colors z) mask (set_within z.rows) s b o (λ k _ p q.
        let (r, h, e) = known_hue z (suc k) (omega arith) p in
        let t : c ≡ suc k = eqb-true c (hue z r) ((U r h).solved_color s b (ap (bit mask) e ∙ q)) ∙ e in
        false≢true (sym m ∙ ap (bit mask) t ∙ q)))

    told_unsolved : solved mask ≡ false → (r : ℕ) → r < hues z → hue z r ≡ c → bit mask c ≡ true
    told_unsolved s r h e = (not-eq-not {b = true}).0 (λ m. false≢true (sym ((U r h).excluded s (ap (bit mask) e ∙ m)) ∙ eq-eqb c (hue z r) (sym e)))

    -- a cell whose unit clauses hold obeys its mask
    pub units_obeyed : obeys mask c ≡ true
    units_obeyed = cases (solved mask) (bit mask 0) refl refl
      where
        cases : (s b : Bool) → solved mask ≡ s → bit mask 0 ≡ b → obeys mask c ≡ true
        cases true true s b = obeys_solved mask c s ∙ ap (bit mask) (told_blank s b) ∙ b
        cases true false s b = obeys_solved mask c s ∙ told_color s b
        cases false _ s _ = ⊎_elim
            (λ e. obeys_blank mask c s e)
            (λ (r, h, e). obeys_color mask c s (omega (arith, (hue_known z r h).0)) ∙ told_unsolved s r h e)
            (color_cases z c C)

  -- and they hold of a cell that obeys it
  pub obeyed_units : obeys mask c ≡ true → (r : ℕ) → r < hues z → UnitOf z mask c r
  obeyed_units o r h =
      let most = color_most z c C in
      let some = (hue_known z r h).0 in
      record {
        solved_color = λ s b m. eq-eqb c (hue z r) (bits_once mask s c (hue z r) most (hue_most z r h) (sym (obeys_solved mask c s) ∙ o) m);
        solved_blank = λ s b. ne_eqb c (hue z r) (λ e. omega (arith, bits_once mask s c 0 most (omega arith) (sym (obeys_solved mask c s) ∙ o) b));
        excluded = λ s m. ne_eqb c (hue z r) (λ e. false≢true (sym m ∙ ap (bit mask) (sym e) ∙ sym (obeys_color mask c s (omega arith)) ∙ o));
      }
