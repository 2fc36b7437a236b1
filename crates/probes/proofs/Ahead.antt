-- The walk over the parts of accepted probe words: what is ahead of it, and what a turn finds there.
use mathlib.Core.Path.{◌≡◌, refl, ap, ◌∙◌}
use mathlib.Core.List.{List, [], ◌∷◌, ◌++◌, map, flat_map}
use Prim.Native.Nat.{ℕ, suc, ◌+◌, ◌-◌, ◌*◌, ◌/◌, ◌≤◌, ◌<◌}
use native.Mathlib.Omega.{arith}
use lib.ListN.{length, take, drop, get_or, length-append}
use lib.Seq.{take_at, drop_at}
use Rattle.probes.specs.Probes.{Claim, Probe}
use Rattle.probes.specs.Words.{claims_words, probe_words, probes_words, list_words}
use Rattle.probes.specs.Parts.{Formed, part_length, parts_ahead, parts_in, Ahead}

-- ---- how long they are

claims_length : (qs : List Claim) → length (claims_words qs) ≡ 3 * length qs
unfolding flat_map
claims_length [] = refl
claims_length (q ∷ qs) = omega (arith, claims_length qs)

pub claims_many : (qs : List Claim) → length (claims_words qs) / 3 ≡ length qs
claims_many qs = omega (arith, claims_length qs)

pub part_is : (p : Probe) (more : List ℕ) → part_length (probe_words p ++ more) ≡ length (probe_words p)
unfolding probe_words
part_is p more = omega (arith, claims_length p.impacts)

pub part_long : (p : Probe) → 4 ≤ length (probe_words p)
unfolding probe_words
part_long p = omega arith

-- ---- the parts of probes' words are theirs

ahead_words : (ps : List Probe) → parts_ahead (length ps) (probes_words ps) ≡ map probe_words ps
unfolding parts_ahead flat_map
ahead_words [] = refl
ahead_words (p ∷ ps) =
    rw (part_is p (probes_words ps), take_at (probe_words p) (probes_words ps) _ refl, drop_at (probe_words p) (probes_words ps) _ refl, ahead_words ps)

pub parts_words : (ps : List Probe) → parts_in (list_words ps) ≡ map probe_words ps
unfolding parts_in
parts_words ps = ahead_words ps

-- ---- what the walk finds

pub ahead_first : {us : List ℕ} (F : Formed us) {n : ℕ} → n ≡ get_or us 0 0 → Ahead n (drop 1 us)
ahead_first F e = record { probes = F.probes; words_are = rw F.words_are; left_is = e ∙ ap (λ (l : List ℕ). get_or l 0 0) F.words_are }

-- a part of n words, and what is behind it
pub record PartAhead (left : ℕ) (us : List ℕ) (n : ℕ) : Type 0 where
  pub within : n ≤ length us
  pub ahead : Ahead (left - 1) (drop n us)
  pub parts_are : parts_ahead left us ≡ take n us ∷ parts_ahead (left - 1) (drop n us)

module _ {left : ℕ} {us : List ℕ} (A : Ahead left us) (some : 0 < left) where
  pub ahead_part : {n : ℕ} → n ≡ get_or us 3 0 → PartAhead left us (4 + 3 * n)
  unfolding parts_ahead flat_map
  ahead_part e = rw e (go A.probes A.words_are A.left_is)
    where
      go : (ps : List Probe) → us ≡ probes_words ps → left ≡ length ps → PartAhead left us (part_length us)
      go [] w l = absurd (omega arith)
      go (p ∷ ps) w l =
          let n : part_length us ≡ length (probe_words p) = rw w (part_is p (probes_words ps)) in
          let s : left ≡ suc (left - 1) = omega arith in
          record {
            within = omega (arith, n, ap length w, length-append (probe_words p) (probes_words ps));
            ahead = record { probes = ps; words_are = rw (n, w) (drop_at (probe_words p) (probes_words ps) _ refl); left_is = omega (arith, l) };
            parts_are = ap (λ k. parts_ahead k us) s;
          }

  pub ahead_long : 3 < length us
  ahead_long = omega (arith, (ahead_part refl).within)

pub ahead_done : {left : ℕ} (us : List ℕ) → left ≡ 0 → parts_ahead left us ≡ []
unfolding parts_ahead
ahead_done us e = rw e
