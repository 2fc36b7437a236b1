-- What the clauses of probes say: where the probe cell has the probe colour, every impact that is not dropped holds.
use mathlib.Core.Path.{◌≡◌, sym, ◌∙◌}
use mathlib.Core.Logic.Iff
use mathlib.Core.Logic.{◌↔◌, ◌⊎◌, inl, inr}
use mathlib.Core.Bool.{true, false, false≢true}
use mathlib.Core.List.{List, [], ◌∷◌, ◌++◌, map, flat_map}
use Prim.Native.Nat.{ℕ, ◌+◌, ◌*◌, ◌<◌}
use native.Mathlib.Omega.{arith}
use native.Mathlib.Decide.{ℕ_discrete}
use lib.Dec.{eqb}
use lib.ListN.{length, get_or}
use borrow.Author.Tests.{eq-eqb, ne_eqb, eqb-true}
use Rattle.sections.specs.Sections.{Clause}
use Rattle.truth.specs.Truth.{Assignment, Satisfies}
use Rattle.puzzles.specs.Puzzle.{Puzzle, width, height}
use Rattle.puzzles.specs.Checks.{puzzle, colors}
use Rattle.puzzles.specs.Good.{Good}
use Rattle.puzzles.proofs.Accepting.{accepted_is}
use Rattle.numbering.specs.Variables.{palette, hues, hue, cell_first}
use Rattle.numbering.proofs.Bounds.{cell_least}
use Rattle.grids.proofs.Cells.{cell_within}
use Rattle.pictures.specs.Pictures.{IsColor, Grid, Extends}
use Rattle.pictures.proofs.TrueClauses.{Holds, none_means, one_means, each_means, either_means, some_when_means, some_each_means, yes_means, no_means, least_means}
use Rattle.pictures.proofs.ColorsOfK.{hue_known, known_hue, color_cases}
use Rattle.probes.specs.Probes.{Claim, Probe, is_color, probes}
use Rattle.implied.specs.Implications.{premise_of, implied, impact_of, implication, implications}
use Rattle.implications.specs.Meaning.{HoldsOf, Implies, ProbesMean}
use Rattle.probes.proofs.ProbeReaders.{FineClaim, FineProbe, no_claim, no_probe}
use Rattle.probes.proofs.AcceptedProbes.{accepted_probes}
use Rattle.lists.proofs.Eaches.{flat_each}

-- where A holds, colour c says of the r-th colour: blank, its variable is false; that colour, it is true
abbrev Says : Puzzle → Assignment → ℕ → Type 0 → ℕ → ℕ → Type 0
Says z β v A c r = (c ≡ 0 → (A → ⊥) ⊎ (β (v + r) ≡ false)) × ((c ≡ 0 → ⊥) → hue z r ≡ c → (A → ⊥) ⊎ (β (v + r) ≡ true))

module _ (z : Puzzle) (β : Assignment) where
  -- ---- of a cell of colour g whose variables begin at v

  module _ (v g : ℕ) (some : 0 < v) (known : IsColor z g) (told : (r : ℕ) → r < hues z → β (v + r) ≡ eqb g (hue z r)) where
    -- it has the colour whose variable is true
    true_hue : (r : ℕ) → r < hues z → β (v + r) ≡ true → g ≡ hue z r
    true_hue r h t = eqb-true g (hue z r) (sym (told r h) ∙ t)

    hue_true : (r : ℕ) → r < hues z → g ≡ hue z r → β (v + r) ≡ true
    hue_true r h e = told r h ∙ eq-eqb g (hue z r) e

    hue_false : (r : ℕ) → r < hues z → (g ≡ hue z r → ⊥) → β (v + r) ≡ false
    hue_false r h n = told r h ∙ ne_eqb g (hue z r) n

    -- a premise: it has not colour c
    premise_means : (c : ℕ) → is_color (colors z) c ≡ true → Holds β (premise_of (palette (colors z)) v c) ↔ (g ≡ c → ⊥)
    unfolding premise_of
    premise_means c k = elim (ℕ_discrete c 0) [
      | yes e ↦ rw (eq-eqb c 0 e)
          (Iff.trans (least_means β v (hues z)) (
            λ (r, h, t) q. omega (arith, true_hue r h t, (hue_known z r h).0),
            λ n. elim (color_cases z g known) [ inl q ↦ absurd (n (q ∙ sym e)) | inr (r, h, q) ↦ (r, h, hue_true r h (sym q)) ],
          ))
      | no e ↦ rw (ne_eqb c 0 e)
          (Iff.trans (some_each_means β (hues z) _ (λ r h. some_when_means β (eqb (hue z r) c) _ (no_means β (v + r) (omega arith)))) (
            λ (r, h, (q, f)) p. false≢true (sym f ∙ hue_true r h (p ∙ sym (eqb-true (hue z r) c q))),
            λ n.
                let (r, h, q) = known_hue z c (omega arith) (rw (ne_eqb c 0 e) at k) in
                (r, h, (eq-eqb (hue z r) c q, hue_false r h (λ p. n (p ∙ q)))),
          ))
    ]

    -- ---- behind a premise that says that A does not hold

    module _ (premise : Clause) {A : Type 0} (says : Holds β premise ↔ (A → ⊥)) where
      implied_means : (c r : ℕ) → r < hues z → Satisfies β (map (λ l. premise ++ (l ∷ [])) (implied c (hue z r) (v + r)))
          ↔ Says z β v A c r
      unfolding implied
      implied_means c r h = elim (ℕ_discrete c 0) [
        | yes e ↦ rw (eq-eqb c 0 e)
            (Iff.trans (one_means β _ (either_means β premise _ says (no_means β (v + r) (omega arith)))) (λ t. (λ _. t, λ n. absurd (n e)), λ t. t.0 e))
        | no e ↦ rw (ne_eqb c 0 e) (elim (ℕ_discrete (hue z r) c) [
          | yes q ↦ rw (eq-eqb (hue z r) c q)
              (Iff.trans (one_means β _ (either_means β premise _ says (yes_means β (v + r)))) (λ t. (λ p. absurd (e p), λ _ _. t), λ t. t.1 e q))
          | no q ↦ rw (ne_eqb (hue z r) c q) (Iff.trans (none_means β) (λ _. (λ p. absurd (e p), λ _ p. absurd (q p)), λ _. tt))
        ])
      ]

      -- where A holds it has colour c, if that is one of its colours
      impact_means : ((A → ⊥) ⊎ A) → (c : ℕ) → Satisfies β (impact_of (palette (colors z)) premise v c) ↔ (A → IsColor z c → g ≡ c)
      unfolding impact_of
      impact_means cases c = Iff.trans (each_means β (hues z) _ (λ r h. implied_means c r h)) (to, from)
        where
          to : ((r : ℕ) → r < hues z → Says z β v A c r) → A → IsColor z c → g ≡ c
          to s a C = elim (color_cases z c C) [
            | inl e ↦ elim (color_cases z g known) [
              | inl q ↦ q ∙ sym e
              | inr (r, h, q) ↦ elim ((s r h).0 e) [ inl n ↦ absurd (n a) | inr f ↦ absurd (false≢true (sym f ∙ hue_true r h (sym q))) ]
            ]
            | inr (r, h, q) ↦ elim ((s r h).1 (λ e. omega (arith, (hue_known z r h).0)) q) [ inl n ↦ absurd (n a) | inr t ↦ true_hue r h t ∙ q ]
          ]

          from : (A → IsColor z c → g ≡ c) → (r : ℕ) → r < hues z → Says z β v A c r
          from k r h = elim cases [
            | inl n ↦ (λ _. inl n, λ _ _. inl n)
            | inr a ↦ (
              λ e. inr (hue_false r h (λ q. omega (arith, k a (inl e), (hue_known z r h).0))),
              λ _ q. inr (hue_true r h (k a (inr (rw (← q) (hue_known z r h).1)) ∙ sym q)),
            )
          ]

  -- ---- of the puzzle

  module _ (G : Good z) (grid : List ℕ) (full : Grid z grid) (extends : Extends z grid β) where
    abbrev color_of : Claim → ℕ
    color_of q = get_or grid (q.y * width z + q.x) 0

    module _ (q : Claim) (F : FineClaim (width z) (height z) q) where
      first_some : 0 < cell_first z q.x q.y
      first_some = cell_least z G q.x q.y F.in_column F.in_row

      color_known : IsColor z (color_of q)
      color_known = full.known (q.y * width z + q.x) (rw full.cells (cell_within (width z) (height z) q.x q.y F.in_column F.in_row))

      color_told : (r : ℕ) → r < hues z → β (cell_first z q.x q.y + r) ≡ eqb (color_of q) (hue z r)
      color_told r h = extends q.x q.y r F.in_column F.in_row h

    implication_means : (p q : Claim) → FineClaim (width z) (height z) p → is_color (colors z) p.color ≡ true → FineClaim (width z) (height z) q
        → Satisfies β (implication z p q) ↔ (HoldsOf z grid p → IsColor z q.color → HoldsOf z grid q)
    unfolding implication
    implication_means p q P k Q =
        impact_means (cell_first z q.x q.y) (color_of q) (first_some q Q) (color_known q Q) (color_told q Q)
        (premise_of (palette (colors z)) (cell_first z p.x p.y) p.color)
        (premise_means (cell_first z p.x p.y) (color_of p) (first_some p P) (color_known p P) (color_told p P) p.color k)
        (elim (ℕ_discrete (color_of p) p.color) [ yes e ↦ inr e | no e ↦ inl e ])
        q.color

    probe_means : (p : Probe) → FineProbe (width z) (height z) (colors z) p → Satisfies β (flat_map (implication z p.premise) p.impacts) ↔ Implies z grid p
    probe_means p F =
        rw (flat_each no_claim (implication z p.premise) p.impacts)
        (Iff.trans (each_means β (length p.impacts) _ (λ j h. implication_means p.premise (get_or p.impacts j no_claim) F.premise F.known (F.impacts j h)))
        (λ k a j h. k j h a, λ k j h a. k a j h))

pub probes_mean : ProbesMean
unfolding implications
probes_mean ws us e f grid full β extends =
    let z = puzzle ws in
    let ps = probes z us in
    rw (flat_each no_probe (λ p. flat_map (implication z p.premise) p.impacts) ps)
    (each_means β (length ps) _ (λ i h. probe_means z β (accepted_is 0 ws e).good grid full extends (get_or ps i no_probe) ((accepted_probes (width z) (height z) (colors z) us f).fine i h)))
