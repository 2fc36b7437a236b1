-- What the walk over probe words reads: exactly the words of fine claims and probes.
use mathlib.Core.Path.{◌≡◌, refl, ap, ◌∙◌}
use mathlib.Core.Bool.{true, false, not}
use mathlib.Core.List.{List, [], ◌∷◌, ◌++◌, flat_map}
use Prim.Native.Nat.{ℕ, ◌+◌, ◌≤◌, ◌<◌}
use native.Mathlib.Omega.{arith}
use lib.Dec.{leb, ltb}
use lib.ListN.{length}
use borrow.Author.Tests.{le-ltb, ltb-false, lt-leb, leb-false}
use Rattle.lists.specs.Each.{Every}
use Rattle.lists.proofs.Tests.{not_false}
use Rattle.refusals.specs.Walk.{got, word}
use Rattle.refusals.proofs.Walking.{stop_if_got, next_got}
use Rattle.refusals.proofs.Readers.{Reads, Reader, reads_as, word_reader, listed_reader}
use Rattle.probes.specs.Probes.{Claim, Probe, read_claim, listed, is_color, read_probe}
use Rattle.probes.specs.Words.{claim_words, claims_words, probe_words, probes_words, list_words}

-- ---- claims

-- on a grid of w columns and h rows
pub record FineClaim (w h : ℕ) (q : Claim) : Type 0 where
  pub in_column : q.x < w
  pub in_row : q.y < h
  pub color_most : q.color ≤ 31

module _ (w h : ℕ) where
  x_reader : Reader (word 1 (leb w) 17) (λ x. x ∷ []) (λ x. leb w x ≡ false)
  x_reader = word_reader 1 (leb w) 17

  y_reader : Reader (word 1 (leb h) 17) (λ y. y ∷ []) (λ y. leb h y ≡ false)
  y_reader = word_reader 1 (leb h) 17

  color_reader : Reader (word 1 (ltb 31) 18) (λ c. c ∷ []) (λ c. ltb 31 c ≡ false)
  color_reader = word_reader 1 (ltb 31) 18

  claim_only : (i : ℕ) (ws : List ℕ) (q : Claim) (j : ℕ) (us : List ℕ) → read_claim w h i ws ≡ got q j us → Reads claim_words (FineClaim w h) i ws q j us
  unfolding read_claim
  claim_only i ws q j us e =
      let a = next_got (word 1 (leb w) 17 i ws) _ e in
      let b = next_got (word 1 (leb h) 17 a.place a.left) _ a.then in
      let c = next_got (word 1 (ltb 31) 18 b.place b.left) _ b.then in
      let X = x_reader.only i ws a.value a.place a.left a.got_is in
      let Y = y_reader.only a.place a.left b.value b.place b.left b.got_is in
      let C = color_reader.only b.place b.left c.value c.place c.left c.got_is in
      reads_as c.then
      (record {
        words_are = X.words_are ∙ ap (λ (l : List ℕ). a.value ∷ l) (Y.words_are ∙ ap (λ (l : List ℕ). b.value ∷ l) C.words_are);
        place_is = omega (arith, X.place_is, Y.place_is, C.place_is);
        fine = record { in_column = leb-false w a.value X.fine; in_row = leb-false h b.value Y.fine; color_most = ltb-false 31 c.value C.fine };
      })

  claim_back : (i : ℕ) (q : Claim) (us : List ℕ) → FineClaim w h q → read_claim w h i (q.x ∷ q.y ∷ q.color ∷ us) ≡ got q (i + 3) us
  unfolding read_claim
  claim_back i q us F =
      let n : i + 1 + 1 + 1 ≡ i + 3 = omega arith in
      rw (
        x_reader.back i q.x (q.y ∷ q.color ∷ us) (lt-leb w q.x F.in_column),
        y_reader.back (i + 1) q.y (q.color ∷ us) (lt-leb h q.y F.in_row),
        color_reader.back (i + 1 + 1) q.color us (le-ltb 31 q.color F.color_most),
        n,
      )

  pub claim_reader : Reader (read_claim w h) claim_words (FineClaim w h)
  claim_reader = record { only = claim_only; back = claim_back }

-- ---- probes

abbrev pub no_claim : Claim
no_claim = record { x = 0; y = 0; color = 0 }

abbrev pub no_probe : Probe
no_probe = record { premise = no_claim; impacts = [] }

pub record FineProbe (w h K : ℕ) (p : Probe) : Type 0 where
  pub premise : FineClaim w h p.premise
  pub known : is_color K p.premise.color ≡ true
  pub impacts : Every no_claim (FineClaim w h) p.impacts

module _ (w h K : ℕ) where
  abbrev impacts_words : List Claim → List ℕ
  impacts_words qs = length qs ∷ claims_words qs

  impacts_reader : Reader (listed (read_claim w h)) impacts_words (Every no_claim (FineClaim w h))
  unfolding flat_map
  impacts_reader = listed_reader no_claim (claim_reader w h) claims_words refl (λ q qs. refl) (λ n. n) (λ n. refl) 1 (λ n o. refl) 0 (λ n. refl)

  probe_only : (i : ℕ) (ws : List ℕ) (p : Probe) (j : ℕ) (us : List ℕ) → read_probe w h K i ws ≡ got p j us → Reads probe_words (FineProbe w h K) i ws p j us
  unfolding read_probe probe_words
  probe_only i ws p j us e =
      let a = next_got (read_claim w h i ws) _ e in
      let b = stop_if_got (not (is_color K a.value.color)) _ _ _ a.then in
      let c = next_got (listed (read_claim w h) a.place a.left) _ b.1 in
      let P = claim_only w h i ws a.value a.place a.left a.got_is in
      let Q = impacts_reader.only a.place a.left c.value c.place c.left c.got_is in
      reads_as c.then
      (record {
        words_are = P.words_are ∙ ap (λ (l : List ℕ). claim_words a.value ++ l) Q.words_are;
        place_is = omega (arith, P.place_is, Q.place_is);
        fine = record { premise = P.fine; known = not_false _ b.0; impacts = Q.fine };
      })

  probe_back : (i : ℕ) (p : Probe) (us : List ℕ) → FineProbe w h K p → read_probe w h K i (probe_words p ++ us) ≡ got p (i + length (probe_words p)) us
  unfolding read_probe probe_words
  probe_back i p us F =
      let q = p.premise in
      let n : i + 3 + length (impacts_words p.impacts) ≡ i + length (claim_words q ++ impacts_words p.impacts) = omega arith in
      rw (claim_back w h i q (impacts_words p.impacts ++ us) F.premise, F.known, impacts_reader.back (i + 3) p.impacts us F.impacts, n)

  pub probe_reader : Reader (read_probe w h K) probe_words (FineProbe w h K)
  probe_reader = record { only = probe_only; back = probe_back }

  pub probes_reader : Reader (listed (read_probe w h K)) list_words (Every no_probe (FineProbe w h K))
  unfolding flat_map
  probes_reader = listed_reader no_probe probe_reader probes_words refl (λ p ps. refl) (λ n. n) (λ n. refl) 1 (λ n o. refl) 0 (λ n. refl)
