-- How many clauses and words a probe's impacts have.
use mathlib.Core.Path.{◌≡◌, refl, sym, ap, ◌∙◌}
use mathlib.Core.Bool.{Bool, true, false, true≢false, cond}
use mathlib.Core.List.{List, [], ◌∷◌, ◌++◌}
use Prim.Native.Nat.{ℕ, suc, ◌+◌, ◌*◌, ◌/◌, ◌^◌, ◌≤◌, ◌<◌}
use native.Mathlib.Omega.{arith}
use native.Mathlib.Nat.{mul-one, mul-add, mul_comm, mul-le-mul_left}
use native.Mathlib.Decide.{ℕ_discrete, dec_lt}
use lib.Dec.{eqb}
use lib.ListN.{length, drop, get_or, length-append, length-map, length-drop}
use lib.Pow.{pow_mono}
use borrow.Author.Tests.{eq-eqb, ne_eqb}
use Rattle.lists.specs.Each.{when, sum}
use Rattle.lists.proofs.Sums.{sum_same, sum_constant, sum_most, length_each, length_when}
use Rattle.literals.specs.Literals.{positive, negative}
use Rattle.sections.specs.Sections.{Clause, clauses_words}
use Rattle.sections.proofs.ClauseLists.{clauses_length}
use Rattle.sections.proofs.Rows.{least_length}
use Rattle.bits.specs.Bits.{bit}
use Rattle.bits.proofs.SetBits.{bit_beyond}
use Rattle.boards.specs.declared.board.Board.{Board}
use Rattle.numbering.specs.Variables.{palette}
use Rattle.numbering.proofs.Palettes.{palette_most}
use Rattle.counts.proofs.Summing.{Summing, summing_first, summing_done}
use Rattle.counts.proofs.OverColors.{over_colors, over_one}
use Rattle.counts.proofs.Literals.{HasEach, each_has, map_has}
use Rattle.implications.specs.declared.count.Extent.{Extent}
use Rattle.probes.specs.Probes.{is_color}
use Rattle.probes.specs.Words.{claim_at}
use Rattle.implied.proofs.CellClauses.{premise_most}
use Rattle.implied.specs.Implications.{premise_of, implied, impact_of}
use Rattle.implied.specs.ByWords.{first_of, premise_in, of_impacts, of_probe}
use Rattle.implications.specs.Sizes.{impact_count, impacts_count, ExtentIs}

-- ---- the colours of a set that are c

abbrev same : ℕ → ℕ → ℕ
same c d = cond (eqb d c) 1 0

module _ (K c : ℕ) (small : K < 2 ^ 32) (some : c ≡ 0 → ⊥) where
  sames : sum (length (palette K)) (λ r. same c (get_or (palette K) r 0)) ≡ cond (bit K c) 1 0
  sames = go (bit K c) refl
    where
      none : (k : ℕ) (b : Bool) → bit K (suc k) ≡ b → bit K c ≡ false → cond b (same c (suc k)) 0 ≡ 0
      none k false e f = refl
      none k true e f = rw (ne_eqb (suc k) c (λ q. true≢false (sym e ∙ ap (bit K) q ∙ f)))

      go : (b : Bool) → bit K c ≡ b → sum (length (palette K)) (λ r. same c (get_or (palette K) r 0)) ≡ cond b 1 0
      go true e = elim (dec_lt c 32) [
        | yes l ↦ over_one (same c) K c (omega arith) (omega arith) e (λ d n. rw (ne_eqb d c n)) ∙ rw (eq-eqb c c refl)
        | no l ↦ absurd (true≢false (sym e ∙ bit_beyond K c (omega (arith, pow_mono {i = 32} {j = c} (omega arith)))))
      ]
      go false e = over_colors (same c) K ∙ sum_same 31 _ (λ k. 0) (λ k _. none k (bit K (suc k)) refl e) ∙ sum_constant 31 0

-- ---- of an impact

implied_length : (c d u : ℕ) → length (implied c d u) ≡ cond (eqb c 0) 1 (same c d)
unfolding implied
implied_length c d u = cases (eqb c 0) (eqb d c)
  where
    cases : (a b : Bool) → length (cond a (negative u ∷ []) (when b (positive u ∷ []))) ≡ cond a 1 (cond b 1 0)
    cases true b = refl
    cases false true = refl
    cases false false = refl

impact_length : (K : ℕ) → K < 2 ^ 32 → (premise : Clause) (v c : ℕ) → length (impact_of (palette K) premise v c) ≡ impact_count K c
unfolding impact_of impact_count
impact_length K small premise v c =
    length_each (length (palette K)) _
    ∙ sum_same (length (palette K)) _ (λ r. cond (eqb c 0) 1 (same c (get_or (palette K) r 0))) (λ r _. length-map (implied c (get_or (palette K) r 0) (v + r)) _ ∙ implied_length c (get_or (palette K) r 0) (v + r))
    ∙ elim (ℕ_discrete c 0) [
      | yes e ↦ rw (eq-eqb c 0 e) (sum_constant (length (palette K)) 1 ∙ mul-one _)
      | no e ↦ rw (ne_eqb c 0 e) (sames K c small e)
    ]

impact_most : (K c : ℕ) → impact_count K c ≤ 31
unfolding impact_count
impact_most K c = cases (eqb c 0) (bit K c)
  where
    cases : (a b : Bool) → cond a (length (palette K)) (cond b 1 0) ≤ 31
    cases true b = palette_most K
    cases false true = omega arith
    cases false false = omega arith

-- the loop that adds them up
pub counts_first : (K : ℕ) (ws : List ℕ) → Summing (length ws / 3) 31 (λ j. impact_count K (get_or ws (3 * j + 2) 0)) 0 0
counts_first K ws = summing_first (length ws / 3) 31 _ (λ j _. impact_most K (get_or ws (3 * j + 2) 0))

pub counts_done : (K : ℕ) (ws : List ℕ) {total j : ℕ} → Summing (length ws / 3) 31 (λ j. impact_count K (get_or ws (3 * j + 2) 0)) total j → length ws / 3 ≤ j → total ≡ impacts_count K ws
unfolding impacts_count
counts_done K ws S h = summing_done S h

-- ---- of a premise

premise_length : (K : ℕ) → K < 2 ^ 32 → (v c : ℕ) → is_color K c ≡ true → length (premise_of (palette K) v c) ≡ cond (eqb c 0) (length (palette K)) 1
unfolding premise_of
premise_length K small v c k = elim (ℕ_discrete c 0) [
  | yes e ↦ rw (eq-eqb c 0 e) (least_length v (length (palette K)))
  | no e ↦
      let b : bit K c ≡ true = rw (ne_eqb c 0 e) at k in
      rw (ne_eqb c 0 e)
      (length_each (length (palette K)) _ ∙ sum_same (length (palette K)) _ (λ r. same c (get_or (palette K) r 0)) (λ r _. length_when (eqb (get_or (palette K) r 0) c) (negative (v + r))) ∙ sames K c small e ∙ rw b)
]

-- ---- of a probe: each clause has the literals of the premise and one more

module _ (b : Board) (K : ℕ) (small : K < 2 ^ 32) where
  impacts_length : (premise : Clause) (ws : List ℕ) → length (of_impacts b (palette K) premise ws) ≡ impacts_count K ws
  unfolding of_impacts impacts_count
  impacts_length premise ws = length_each (length ws / 3) _ ∙ sum_same (length ws / 3) _ _ (λ j _. impact_length K small premise _ (get_or ws (3 * j + 2) 0))

  impacts_has : (premise : Clause) (ws : List ℕ) → HasEach (length premise + 1) (of_impacts b (palette K) premise ws)
  unfolding of_impacts impact_of
  impacts_has premise ws =
      let m = length premise + 1 in
      each_has m (length ws / 3) _ (λ j _.
      let q = claim_at ws (3 * j) in
      each_has m (length (palette K)) _ (λ r _. map_has m (λ l. premise ++ (l ∷ [])) (λ l. length-append premise (l ∷ [])) (implied q.color (get_or (palette K) r 0) (first_of b (length (palette K)) q + r))))

  impacts_words_lem : (premise : Clause) (ws : List ℕ) → length (clauses_words (of_impacts b (palette K) premise ws)) ≡ impacts_count K ws * (length premise + 2)
  impacts_words_lem premise ws =
      let m = length premise + 1 in
      let cs = of_impacts b (palette K) premise ws in
      let e : length premise + 2 ≡ 1 + m = omega arith in
      rw e (omega (arith, clauses_length cs, impacts_has premise ws, mul_comm m (length cs), mul-add (impacts_count K ws) 1 m, mul-one (impacts_count K ws), impacts_length premise ws, ap (λ (n : ℕ). n * m) (impacts_length premise ws)))

  module _ (ws : List ℕ) where
    abbrev count : ℕ
    count = impacts_count K (drop 4 ws)

    probe_length : length (of_probe b (palette K) ws) ≡ count
    unfolding of_probe
    probe_length = impacts_length (premise_in b (palette K) (claim_at ws 0)) (drop 4 ws)

    pub count_most : count ≤ 11 * length ws
    unfolding impacts_count
    count_most = omega (arith, sum_most (length (drop 4 ws) / 3) 31 (λ j. impact_count K (get_or (drop 4 ws) (3 * j + 2) 0)) (λ j _. impact_most K (get_or (drop 4 ws) (3 * j + 2) 0)), length-drop 4 ws)

    pub probe_sized : is_color K (get_or ws 2 0) ≡ true → (n s : ℕ) → n ≡ count → s ≡ cond (eqb (get_or ws 2 0) 0) (length (palette K)) 1
        → ExtentIs (of_probe b (palette K) ws) (record { clauses = n; words = n * (s + 2) })
    unfolding of_probe
    probe_sized known n s e q = record {
      clauses_is = e ∙ sym probe_length;
      words_is = rw (e, q, ← premise_length K small (first_of b (length (palette K)) (claim_at ws 0)) (get_or ws 2 0) known) (sym (impacts_words_lem (premise_in b (palette K) (claim_at ws 0)) (drop 4 ws)));
    }

    pub sized_most : {size : Extent} → ExtentIs (of_probe b (palette K) ws) size → (size.clauses ≤ 11 * length ws) × (size.words ≤ 363 * length ws)
    unfolding of_probe
    sized_most S =
        let premise = premise_in b (palette K) (claim_at ws 0) in
        let p : length premise + 2 ≤ 33 = omega (arith, premise_most (palette K) (first_of b (length (palette K)) (claim_at ws 0)) (get_or ws 2 0), palette_most K) in
        (omega (arith, S.clauses_is, probe_length, count_most), omega (arith, S.words_is, impacts_words_lem premise (drop 4 ws), mul-le-mul_left count p, count_most))
