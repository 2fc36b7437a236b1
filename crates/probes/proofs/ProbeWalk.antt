-- The walk over probe words, as the readers in code go: word by word of a claim, and a probe.
use mathlib.Core.Path.{◌≡◌, sym, ap, ◌∙◌}
use mathlib.Core.Bool.{true, false}
use mathlib.Core.List.{List, ◌∷◌}
use Prim.Native.Nat.{ℕ, ◌+◌, ◌-◌, ◌≤◌, ◌<◌}
use native.Mathlib.Omega.{arith}
use lib.Dec.{leb, ltb}
use lib.ListN.{length, take, drop, get_or}
use borrow.Author.Tests.{le-leb, lt-leb, lt-ltb, le-ltb}
use Rattle.lists.proofs.Writing.{tail_is}
use Rattle.refusals.specs.Verdict.{Verdict, accepted, refused}
use Rattle.refusals.specs.Told.{refusal}
use Rattle.refusals.specs.Walk.{got, outcome, stop_if, word}
use Rattle.refusals.specs.declared.Refusal.{Refusal}
use Rattle.refusals.proofs.Answering.{refusal_is}
use Rattle.refusals.proofs.Walking.{outcome_got, next_refused, next_keeps}
use Rattle.refusals.proofs.Passing.{word_none, word_some}
use Rattle.probes.specs.Probes.{read_claim, listed, is_color, read_probe}
use Rattle.probes.specs.Words.{claim_at}
use Rattle.probes.proofs.ProbeReaders.{claim_reader}

-- ---- a claim

module _ (w h at : ℕ) (part : List ℕ) where
  abbrev Comes : Verdict ℕ → Type 0
  Comes v = v ≡ outcome (read_claim w h at part)

  pub x_missing : length part ≡ 0 → Comes (refused 1 at)
  unfolding read_claim
  x_missing e = rw (word_none 1 (leb w) 17 at part e)

  module _ {x : ℕ} {us : List ℕ} (one : part ≡ x ∷ us) where
    x_is : word 1 (leb w) 17 at part ≡ stop_if (leb w x) 17 at (got x (at + 1) us)
    x_is = word_some 1 (leb w) 17 at one

    pub x_off : w ≤ x → Comes (refused 17 at)
    unfolding read_claim
    x_off o = rw (x_is, le-leb w _ o)

    module _ (x-in : x < w) where
      pub y_missing : length us ≡ 0 → Comes (refused 1 (at + 1))
      unfolding read_claim
      y_missing e = rw (x_is, lt-leb w _ x-in, word_none 1 (leb h) 17 (at + 1) us e)

      module _ {y : ℕ} {vs : List ℕ} (two : us ≡ y ∷ vs) where
        y_is : word 1 (leb h) 17 (at + 1) us ≡ stop_if (leb h y) 17 (at + 1) (got y (at + 2) vs)
        y_is =
            let p : at + 1 + 1 ≡ at + 2 = omega arith in
            word_some 1 (leb h) 17 (at + 1) two ∙ rw p

        pub y_off : h ≤ y → Comes (refused 17 (at + 1))
        unfolding read_claim
        y_off o = rw (x_is, lt-leb w _ x-in, y_is, le-leb h _ o)

        module _ (y-in : y < h) where
          pub color_missing : length vs ≡ 0 → Comes (refused 1 (at + 2))
          unfolding read_claim
          color_missing e = rw (x_is, lt-leb w _ x-in, y_is, lt-leb h _ y-in, word_none 1 (ltb 31) 18 (at + 2) vs e)

          module _ {c : ℕ} {xs : List ℕ} (three : vs ≡ c ∷ xs) where
            pub color_off : 31 < c → Comes (refused 18 (at + 2))
            unfolding read_claim
            color_off o = rw (x_is, lt-leb w _ x-in, y_is, lt-leb h _ y-in, word_some 1 (ltb 31) 18 (at + 2) three, lt-ltb 31 _ o)

            pub color_on : c ≤ 31 → Comes (accepted (at + 3))
            unfolding read_claim
            color_on o =
                let p : at + 2 + 1 ≡ at + 3 = omega arith in
                rw (x_is, lt-leb w _ x-in, y_is, lt-leb h _ y-in, word_some 1 (ltb 31) 18 (at + 2) three, le-ltb 31 _ o, p)

-- ---- a probe

module _ (w h at : ℕ) (part : List ℕ) where
  pub premise_refused : (K : ℕ) (why : Refusal) → refusal why ≡ outcome (read_claim w h at part) → refusal why ≡ outcome (read_probe w h K at part)
  unfolding read_probe
  premise_refused K why e = let t = refusal_is why in t ∙ sym (next_refused (read_claim w h at part) _ (sym e ∙ t))

  module _ {j : ℕ} (e : accepted j ≡ outcome (read_claim w h at part)) where
    premise_got : (3 ≤ length part) × (read_claim w h at part ≡ got (claim_at part 0) (at + 3) (drop 3 part))
    premise_got =
        let g = outcome_got (read_claim w h at part) e in
        let R = (claim_reader w h).only at part g.value j g.left g.got_is in
        (omega (arith, ap length R.words_are), g.got_is ∙ sym (ap (λ (l : List ℕ). got (claim_at l 0) j (drop 3 l)) R.words_are) ∙ ap (λ (k : ℕ). got (claim_at part 0) k (drop 3 part)) R.place_is)

    pub premise_long : 3 ≤ length part
    premise_long = premise_got.0

    pub probe_color_off : (K : ℕ) → is_color K (get_or part 2 0) ≡ false → refused 19 (at + 2) ≡ outcome (read_probe w h K at part)
    unfolding read_probe
    probe_color_off K o = sym (rw (premise_got.1, o))

    -- the impacts are read from the part that is left, `&part[3..]`
    pub probe_color_on : (K : ℕ) → is_color K (get_or part 2 0) ≡ true → {v : Verdict ℕ} → v ≡ outcome (listed (read_claim w h) (at + 3) (take (length part - 3) (drop 3 part))) → v ≡ outcome (read_probe w h K at part)
    unfolding read_probe
    probe_color_on K o t = t ∙ rw (tail_is part 3, premise_got.1, o) (sym (next_keeps _ (listed (read_claim w h) (at + 3) (drop 3 part))))
