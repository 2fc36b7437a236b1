-- n of them are read one after another, as they walk.
use mathlib.Core.Path.{◌≡◌, sym, ap, ◌∙◌}
use mathlib.Core.List.{List, ◌∷◌}
use Prim.Native.Nat.{ℕ, suc, ◌+◌, ◌-◌, ◌≤◌, ◌<◌}
use native.Mathlib.Omega.{arith}
use native.Mathlib.Nat.{add-zero}
use lib.ListN.{length, take, drop, length-drop}
use lib.Seq.{drop-drop}
use Rattle.lists.proofs.Writing.{tail_is}
use Rattle.refusals.specs.declared.Refusal.{Refusal}
use Rattle.refusals.specs.Verdict.{accepted}
use Rattle.refusals.specs.Told.{refusal}
use Rattle.refusals.specs.Walk.{Walk, outcome, times}
use Rattle.refusals.proofs.Answering.{refusal_is}
use Rattle.refusals.proofs.Walking.{Got, outcome_got, next_refused, next_keeps}
use Rattle.walks.specs.Onward.{Behind, Onward}

module _ {B A : Type 0} where
  -- l of n have been read, in i words
  pub record Passing (f : ℕ → List B → Walk B A) (n at : ℕ) (part : List B) (l i : ℕ) : Type 0 where
    pub few : l ≤ n
    pub within : i ≤ length part
    pub same : outcome (times n f at part) ≡ outcome (times (n - l) f (at + i) (drop i part))

  pub passing_first : (f : ℕ → List B → Walk B A) (n at : ℕ) (part : List B) → Passing f n at part 0 0
  passing_first f n at part =
      let e : n - 0 ≡ n = omega arith in
      record { few = omega arith; within = omega arith; same = rw (e, add-zero) }

  -- the next one is read from the part that is left, `&part[i..]`
  module _ {f : ℕ → List B → Walk B A} {n at l i : ℕ} {part : List B} (P : Passing f n at part l i) where
    pub passing_stop : l < n → (why : Refusal) → refusal why ≡ outcome (f (at + i) (take (length part - i) (drop i part))) → refusal why ≡ outcome (times n f at part)
    unfolding times
    passing_stop h why e =
        let m : n - l ≡ suc (n - l - 1) = omega arith in
        let t = refusal_is why in
        t ∙ sym (P.same ∙ rw m (next_refused (f (at + i) (drop i part)) _ (sym (rw (tail_is part i) at e) ∙ t)))

    module _ (F : Onward f) {j : ℕ} (e : accepted j ≡ outcome (f (at + i) (take (length part - i) (drop i part)))) where
      read : Got (f (at + i) (drop i part)) j
      read = outcome_got (f (at + i) (drop i part)) (rw (tail_is part i) at e)

      behind : Behind (at + i) (drop i part) j read.left
      behind = F.on (at + i) (drop i part) read.value j read.left read.got_is

      pub passing_low : at + i ≤ j
      passing_low = behind.low

      pub passing_next : l < n → Passing f n at part (l + 1) (j - at)
      unfolding times
      passing_next h =
          let p = behind in
          let m : n - l ≡ suc (n - (l + 1)) = omega arith in
          let b : at + (j - at) ≡ j = omega (arith, p.low) in
          let d : read.left ≡ drop (j - at) part = p.left_is ∙ drop-drop (j - (at + i)) i part ∙ ap (λ (k : ℕ). drop k part) (omega (arith, p.low)) in
          record {
            few = omega arith;
            within = omega (arith, p.low, p.within, length-drop i part, P.within);
            same = P.same ∙ rw (m, read.got_is, b, d) (next_keeps (◌∷◌ read.value) (times (n - (l + 1)) f j (drop (j - at) part)));
          }

  pub passing_done : {f : ℕ → List B → Walk B A} {n at l i : ℕ} {part : List B} → Passing f n at part l i → n ≤ l → accepted (at + i) ≡ outcome (times n f at part)
  unfolding times
  passing_done {f} {n} {at} {l} {i} {part} P h =
      let m : n - l ≡ 0 = omega arith in
      sym (P.same ∙ rw m)
