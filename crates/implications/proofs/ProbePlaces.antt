-- The parts of accepted words are the words of their probes; and the claims of a probe.
use mathlib.Core.Path.{◌≡◌, refl, sym, ap, ◌∙◌}
use mathlib.Core.Bool.{true}
use mathlib.Core.List.{List, [], ◌∷◌, ◌++◌, map, flatten, flat_map}
use Prim.Native.Nat.{ℕ, zero, suc, ◌+◌, ◌-◌, ◌*◌, ◌≤◌, ◌<◌}
use native.Mathlib.Omega.{arith}
use native.Mathlib.Nat.{add_assoc}
use lib.ListN.{length, drop, get_or, length-append}
use Rattle.std.proofs.lemmas.List.Folds.{flat_map-map}
use lib.Seq.{drop-cons, drop_at, drop-drop, take_at, get_or-drop, get_or-append-add}
use Rattle.lists.specs.Each.{Every}
use Rattle.lists.proofs.Everys.{every_map}
use Rattle.lists.proofs.Eaches.{each_same, flat_each}
use Rattle.boards.specs.declared.board.Board.{Board}
use Rattle.probes.specs.Probes.{Claim, Probe, is_color}
use Rattle.probes.specs.Words.{claim_at, claim_words, claims_words, probe_words, probes_words}
use Rattle.probes.specs.Parts.{Formed, part_length, parts_in}
use Rattle.implied.specs.ByWords.{ProbeOnBoard, of_probe, of_probes, place_at, words_at}
use Rattle.probes.proofs.ProbeReaders.{FineProbe, no_claim, no_probe}
use Rattle.probes.proofs.AcceptedProbes.{Accepted, held_in}
use Rattle.probes.proofs.Ahead.{claims_many, part_is, part_long, parts_words}

-- ---- claims, three words each

pub claims_at : (qs : List Claim) (j : ℕ) → j < length qs → claim_at (claims_words qs) (3 * j) ≡ get_or qs j no_claim
unfolding flat_map
claims_at [] j h = absurd (omega arith)
claims_at (q ∷ qs) zero h = refl
claims_at (q ∷ qs) (suc j) h =
    let i = 3 * j in
    let e : 3 * suc j ≡ 3 + i = omega arith in
    rw (e, add_assoc 3 i 1, add_assoc 3 i 2, get_or-append-add (claim_words q) (claims_words qs) i 0, get_or-append-add (claim_words q) (claims_words qs) (i + 1) 0, get_or-append-add (claim_words q) (claims_words qs) (i + 2) 0)
    (claims_at qs j (omega arith))

-- ---- where probe k stands

module _ (us : List ℕ) (k : ℕ) (p : Probe) (more : List ℕ) (split : drop (place_at us k) us ≡ probe_words p ++ more) where
  at_next : place_at us (suc k) ≡ place_at us k + length (probe_words p)
  unfolding place_at
  at_next = omega (arith, get_or-drop (place_at us k) us 3 0, ap part_length split, part_is p more)

  at_rest : drop (place_at us (suc k)) us ≡ more
  at_rest = rw (at_next, ← drop-drop (length (probe_words p)) (place_at us k) us, split) (drop_at (probe_words p) more _ refl)

  at_words : words_at us k ≡ probe_words p
  at_words =
      let e : place_at us (suc k) - place_at us k ≡ length (probe_words p) = omega (arith, at_next) in
      rw (e, split) (take_at (probe_words p) more _ refl)

-- ---- accepted words

-- the words of a probe that is fine
pub record FinePart (w h K : ℕ) (part : List ℕ) : Type 0 where
  pub probe : Probe
  pub words_are : part ≡ probe_words probe
  pub fine : FineProbe w h K probe

-- parts of no more words than are taken
pub record Few (w h K : ℕ) (parts : List (List ℕ)) : Type 0 where
  pub fine : Every [] (FinePart w h K) parts
  pub few : length (flatten parts) ≤ 1048576

flatten_words : (ps : List Probe) → flatten (map probe_words ps) ≡ probes_words ps
unfolding flatten flat_map
flatten_words [] = refl
flatten_words (p ∷ ps) = ap (λ l. probe_words p ++ l) (flatten_words ps)

module _ {w h K : ℕ} {us : List ℕ} (A : Accepted w h K us) where
  abbrev ps : List Probe
  ps = held_in w h K us

  pub formed : Formed us
  formed = record { probes = ps; words_are = A.words_are }

  parts_are : parts_in us ≡ map probe_words ps
  parts_are = ap parts_in A.words_are ∙ parts_words ps

  pub few_first : Few w h K (parts_in us)
  few_first = rw parts_are
      (record {
        fine = every_map [] (FinePart w h K) no_probe probe_words ps (λ k l. record { probe = get_or ps k no_probe; words_are = refl; fine = A.fine k l });
        few = omega (arith, ap length (flatten_words ps), ap length A.words_are, A.few);
      })

  split_at : (k : ℕ) → k < length ps → drop (place_at us k) us ≡ probes_words (drop k ps) → drop (place_at us k) us ≡ probe_words (get_or ps k no_probe) ++ probes_words (drop (suc k) ps)
  split_at k h e = e ∙ rw (drop-cons ps k no_probe h) (unfold flat_map in refl)

  rest_at : (k : ℕ) → k ≤ length ps → drop (place_at us k) us ≡ probes_words (drop k ps)
  rest_at zero h = unfold place_at in ap (drop 1) A.words_are
  rest_at (suc k) h = at_rest us k (get_or ps k no_probe) (probes_words (drop (suc k) ps)) (split_at k h (rest_at k (omega arith)))

  -- the clauses of them all are those of each part
  pub probes_held : (b : Board) (cs : List ℕ) → of_probes b cs us ≡ flat_map (λ p. of_probe b cs (probe_words p)) ps
  unfolding of_probes
  probes_held b cs =
      let first : get_or us 0 0 ≡ length ps = ap (λ (l : List ℕ). get_or l 0 0) A.words_are in
      rw (first, flat_each no_probe (λ p. of_probe b cs (probe_words p)) ps)
      (each_same (length ps) _ _ (λ k l. ap (of_probe b cs) (at_words us k (get_or ps k no_probe) (probes_words (drop (suc k) ps)) (split_at k l (rest_at k (omega arith))))))

  pub probes_parts : (b : Board) (cs : List ℕ) → of_probes b cs us ≡ flat_map (of_probe b cs) (parts_in us)
  unfolding flat_map
  probes_parts b cs = probes_held b cs ∙ rw parts_are (sym (flat_map-map (of_probe b cs) probe_words ps))

-- ---- a loop over them, at a part

module _ {w h K : ℕ} {rest more : List (List ℕ)} {part : List ℕ} (F : Few w h K rest) (e : rest ≡ part ∷ more) where
  here : FinePart w h K part
  here = rw e at (F.fine 0 (omega (arith, ap length e)))

  pub few_next : Few w h K more
  unfolding flatten
  few_next =
      let G : Few w h K (part ∷ more) = rw e at F in
      record { fine = λ k l. G.fine (suc k) (omega arith); few = omega (arith, G.few, length-append part (flatten more)) }

  pub few_long : (4 ≤ length part) × (length part ≤ 1048576)
  unfolding flatten
  few_long =
      let G : Few w h K (part ∷ more) = rw e at F in
      (omega (arith, ap length here.words_are, part_long here.probe), omega (arith, G.few, length-append part (flatten more)))

  pub few_known : is_color K (get_or part 2 0) ≡ true
  few_known = rw here.words_are (unfold probe_words in here.fine.known)

  pub few_on_board : (b : Board) → b.width ≡ w → b.height ≡ h → ProbeOnBoard b part
  unfolding probe_words
  few_on_board b p q =
      let F = here.fine in
      let qs = here.probe.impacts in
      rw here.words_are
      (record {
        long = omega arith;
        premise = (omega (arith, F.premise.in_column), omega (arith, F.premise.in_row));
        impacts = λ j g.
            let f = F.impacts j (omega (arith, claims_many qs)) in
            let e = claims_at qs j (omega (arith, claims_many qs)) in
            (omega (arith, f.in_column, ap (λ (c : Claim). c.x) e), omega (arith, f.in_row, ap (λ (c : Claim). c.y) e));
      })
