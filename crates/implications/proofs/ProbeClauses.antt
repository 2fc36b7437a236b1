-- The clauses of probes, as they are written by a board and by words: those that document 01 defines.
use mathlib.Core.Path.{◌≡◌, refl, ap, ◌∙◌}
use mathlib.Core.List.{List, [], ◌∷◌, ◌++◌, flat_map}
use Prim.Native.Nat.{ℕ, ◌+◌, ◌-◌, ◌*◌, ◌/◌, ◌≤◌}
use native.Mathlib.Omega.{arith}
use lib.IntN.{ℤ, pos}
use lib.ListN.{length, take, drop, get_or, set}
use Rattle.lists.specs.Wrote.{Wrote}
use Rattle.lists.proofs.Eaches.{each_same, flat_each, flat_append}
use Rattle.lists.proofs.Fronts.{front_is}
use Rattle.lists.proofs.Emitting.{Emitting}
use Rattle.lists.proofs.Writing.{Filling, fill_first, fill_room, fill_next, fill_done, tail_is}
use Rattle.sections.specs.Sections.{Clause, clause_words, clauses_words, section_words}
use Rattle.sections.proofs.Section.{clauses_room, section_wrote}
use Rattle.sections.proofs.ClauseLists.{say_first, say_done}
use Rattle.puzzles.specs.Puzzle.{Puzzle, width, height}
use Rattle.puzzles.specs.Checks.{colors}
use Rattle.boards.specs.declared.board.Board.{Board}
use Rattle.numbering.specs.Variables.{palette}
use Rattle.cells.specs.Given.{Shows}
use Rattle.cells.proofs.BoardCells.{cell_is}
use Rattle.probes.specs.Probes.{Probe, probes}
use Rattle.probes.specs.Words.{claim_at, probe_words}
use Rattle.implied.specs.Implications.{premise_of, implication, implications}
use Rattle.implied.specs.ByWords.{first_of, premise_in, impact_in, of_impacts, of_probe, of_probes}
use Rattle.probes.proofs.ProbeReaders.{no_claim, no_probe}
use Rattle.probes.proofs.AcceptedProbes.{Accepted}
use Rattle.implied.proofs.CellClauses.{premise_most}
use Rattle.implications.proofs.ProbePlaces.{claims_at, Few, few_first, few_next, probes_held, probes_parts}
use Rattle.probes.specs.Parts.{parts_in}
use Rattle.implications.proofs.Counting.{of_parts, of_more}
use Rattle.probes.proofs.Ahead.{claims_many}

-- ---- the impacts of a probe, one after another

module _ (b : Board) (cs : List ℕ) (premise : Clause) (ws : List ℕ) where
  pub impacts_first : (out : List ℤ) (at : ℕ) → at + length (clauses_words (of_impacts b cs premise ws)) ≤ length out
      → Emitting (length ws / 3) (λ j. clauses_words (impact_in b cs premise (claim_at ws (3 * j)))) out at out at 0
  unfolding of_impacts
  impacts_first out at h = say_first (length ws / 3) _ out at h

  pub impacts_done : {out₀ out : List ℤ} {at₀ at j : ℕ} → Emitting (length ws / 3) (λ j. clauses_words (impact_in b cs premise (claim_at ws (3 * j)))) out₀ at₀ out at j
      → length ws / 3 ≤ j → Wrote (clauses_words (of_impacts b cs premise ws)) out₀ at₀ out at
  unfolding of_impacts
  impacts_done E h = say_done (length ws / 3) _ E h

-- ---- a probe, once its premise is made

module _ (b : Board) (cs ws : List ℕ) {v : ℕ} (first : v ≡ first_of b (length cs) (claim_at ws 0)) {out out₁ : List ℤ} {n : ℕ} (made : Wrote (premise_of cs v (get_or ws 2 0)) out 0 out₁ n) where
  pub premise_few : n ≤ length cs
  premise_few = omega (arith, made.next_is, premise_most cs v (get_or ws 2 0))

  pub premise_taken : n ≡ length (take n out₁)
  premise_taken = omega (arith, made.next_is, ap length (front_is made))

  -- its impacts, `&premise[..n]` and `&part[4..]`
  pub probe_impacts : of_impacts b cs (take n out₁) (take (length ws - 4) (drop 4 ws)) ≡ of_probe b cs ws
  unfolding of_probe
  probe_impacts = rw (front_is made, tail_is ws 4, first)

-- ---- the probes, one after another

-- their section, where the parts in `rest` are ahead
pub record SectionFilling (b : Board) (cs : List ℕ) (parts : List (List ℕ)) (out₀ out : List ℤ) (to : ℕ) (rest : List (List ℕ)) : Type 0 where
  pub few : Few b.width b.height b.colors rest
  pub fill : Filling (clauses_words (of_parts b cs parts)) out₀ 1 (clauses_words (of_parts b cs rest)) out to

module _ {b : Board} {cs : List ℕ} {parts rest : List (List ℕ)} {out₀ out : List ℤ} {to : ℕ} (F : SectionFilling b cs parts out₀ out to rest) where
  module _ {part : List ℕ} {more : List (List ℕ)} (e : rest ≡ part ∷ more) where
    splits : clauses_words (of_parts b cs rest) ≡ clauses_words (of_probe b cs part) ++ clauses_words (of_parts b cs more)
    splits = rw (e, of_more) (flat_append clause_words (of_probe b cs part) (of_parts b cs more))

    pub part_room : to + length (clauses_words (of_probe b cs part)) ≤ length out
    part_room = fill_room F.fill _ _ splits

    pub section_next : {out₁ : List ℤ} {to₁ : ℕ} → Wrote (clauses_words (of_probe b cs part)) out to out₁ to₁ → SectionFilling b cs parts out₀ out₁ to₁ more
    section_next w = record { few = few_next F.few e; fill = fill_next F.fill _ _ splits w }

module _ {b : Board} {cs us : List ℕ} (A : Accepted b.width b.height b.colors us) (out : List ℤ) (h : length (section_words (of_probes b cs us)) ≤ length out) (a : ℤ) where
  pub section_first : SectionFilling b cs (parts_in us) (set out 0 a) (set out 0 a) 1 (parts_in us)
  section_first = record { few = few_first A; fill = fill_first _ _ 1 (rw (probes_parts A b cs) at (clauses_room (of_probes b cs us) out h a)) refl }

  -- behind their count
  pub section_done : a ≡ pos (length (of_probes b cs us)) → {out₁ : List ℤ} {to : ℕ} {rest : List (List ℕ)} → SectionFilling b cs (parts_in us) (set out 0 a) out₁ to rest → rest ≡ []
      → Wrote (section_words (of_probes b cs us)) out 0 out₁ to
  unfolding flat_map
  section_done q F e =
      section_wrote (of_probes b cs us) out h a q (rw (probes_parts A b cs) (fill_done F.fill (ap (λ r. clauses_words (of_parts b cs r)) e)))

-- ---- of a puzzle

module _ {b : Board} {z : Puzzle} (S : Shows b (length (palette (colors z))) z) where
  abbrev cs : List ℕ
  cs = palette (colors z)

  probe_is : (p : Probe) → of_probe b cs (probe_words p) ≡ flat_map (implication z p.premise) p.impacts
  unfolding of_probe of_impacts probe_words implication
  probe_is p =
      let qs = p.impacts in
      let q = p.premise in
      rw (claims_many qs, flat_each no_claim (implication z q) qs)
      (each_same (length qs) _ _ (λ j h.
      ap (impact_in b cs (premise_in b cs q)) (claims_at qs j h) ∙ rw (cell_is S (get_or qs j no_claim).x (get_or qs j no_claim).y, cell_is S q.x q.y)))

  pub probes_are : (us : List ℕ) → Accepted (width z) (height z) (colors z) us → of_probes b cs us ≡ implications z (probes z us)
  unfolding implications
  probes_are us A =
      let ps = probes z us in
      rw (probes_held A b cs, flat_each no_probe (λ p. of_probe b cs (probe_words p)) ps, flat_each no_probe (λ p. flat_map (implication z p.premise) p.impacts) ps)
      (each_same (length ps) _ _ (λ k h. probe_is (get_or ps k no_probe)))
