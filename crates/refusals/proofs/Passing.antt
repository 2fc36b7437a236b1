-- Readers in code, as they walk: a word, one after another, a count and as many after it, the whole.
use mathlib.Core.Path.{◌≡◌, refl, sym, ap, ◌∙◌}
use mathlib.Core.Bool.{Bool, true, false}
use mathlib.Core.List.{List, [], ◌∷◌}
use Prim.Native.Nat.{ℕ, ◌+◌, ◌≤◌, ◌<◌}
use native.Mathlib.Omega.{arith}
use lib.ListN.{length, length-append}
use borrow.Author.Tests.{lt-ltb, le-ltb}
use Rattle.refusals.specs.declared.Refusal.{Refusal}
use Rattle.refusals.specs.Verdict.{Verdict, accepted, refused, passed}
use Rattle.refusals.specs.Told.{refusal}
use Rattle.refusals.specs.Walk.{Walk, got, outcome, walked, stop_if, stop, word, times, counted}
use Rattle.refusals.proofs.Answering.{refusal_is}
use Rattle.refusals.proofs.Walking.{Got, outcome_got, stopped}
use Rattle.refusals.proofs.Readers.{Reads}

-- ---- a word

module _ {B : Type 0} (n : ℕ) (off : B → Bool) (k at : ℕ) where
  pub word_none : (part : List B) → length part ≡ 0 → word n off k at part ≡ stop n at
  unfolding word
  word_none [] e = refl
  word_none (x ∷ ws) e = absurd (omega arith)

  pub word_some : {part : List B} {x : B} {us : List B} → part ≡ x ∷ us → word n off k at part ≡ stop_if (off x) k at (got x (at + 1) us)
  unfolding word
  word_some p = rw p

  pub word_missing : (part : List B) → length part ≡ 0 → refused n at ≡ outcome (word n off k at part)
  word_missing part e = sym (ap outcome (word_none part e))

  module _ {part : List B} {x : B} {us : List B} (p : part ≡ x ∷ us) where
    pub word_off : off x ≡ true → refused k at ≡ outcome (word n off k at part)
    word_off o = sym (ap outcome (word_some p) ∙ rw o)

    pub word_on : off x ≡ false → accepted (at + 1) ≡ outcome (word n off k at part)
    word_on o = sym (ap outcome (word_some p) ∙ rw o)

-- ---- a count, and as many after it

module _ {B A : Type 0} (size : B → ℕ) (m : ℕ) (off : B → Bool) (k : ℕ) (f : ℕ → List B → Walk B A) (at : ℕ) where
  pub count_missing : (part : List B) → length part ≡ 0 → refused m at ≡ outcome (counted size (word m off k) f at part)
  unfolding counted
  count_missing part e = rw (word_none m off k at part e)

  module _ {part : List B} {x : B} {us : List B} (p : part ≡ x ∷ us) where
    pub count_off : off x ≡ true → refused k at ≡ outcome (counted size (word m off k) f at part)
    unfolding counted
    count_off o = rw (word_some m off k at p, o)

    pub count_on : off x ≡ false → {v : Verdict ℕ} → v ≡ outcome (times (size x) f (at + 1) us) → v ≡ outcome (counted size (word m off k) f at part)
    unfolding counted
    count_on o t = t ∙ rw (word_some m off k at p, o)

-- what the check looks for at readers in code
pub ruleset reading = (word_missing, word_off, word_on, count_missing, count_off)

-- ---- the whole, and what it leaves

module _ {B A : Type 0} (k : ℕ) (w : Walk B A) where
  pub walked_refused : (why : Refusal) → refusal why ≡ outcome w → refusal why ≡ walked k w
  unfolding walked
  walked_refused why e = refusal_is why ∙ rw (stopped w (sym e ∙ refusal_is why))

  module _ {W : A → List B} {Fine : A → Type 0} {at : ℕ} {ws : List B} (only : (b : A) (j : ℕ) (us : List B) → w ≡ got b j us → Reads W Fine at ws b j us) {end : ℕ} (e : accepted end ≡ outcome w) where
    G : Got w end
    G = outcome_got w e

    left : at + length ws ≡ end + length G.left
    left =
        let R = only G.value end G.left G.got_is in
        omega (arith, R.place_is, ap length R.words_are, length-append (W G.value) G.left)

    pub walked_left : end < at + length ws → refused k end ≡ walked k w
    unfolding walked
    walked_left h = rw (G.got_is, lt-ltb 0 (length G.left) (omega (arith, left)))

    pub walked_done : at + length ws ≤ end → passed ≡ walked k w
    unfolding walked
    walked_done h = rw (G.got_is, le-ltb 0 (length G.left) (omega (arith, left)))
