-- What the caller of a call knows by its answer: which of its refusals it was, or that there was room.
use mathlib.Core.Path.{◌≡◌, refl, sym, ap, ◌∙◌}
use mathlib.Core.List.{List}
use Prim.Native.Nat.{ℕ, ◌≤◌}
use native.Mathlib.Nat.{zero-add}
use lib.Dec.{ltb}
use lib.ListN.{length}
use borrow.Author.Tests.{le-ltb, ltb-false}
use Rattle.std.specs.Prelude.{Result, Ok, Err}
use Rattle.lists.specs.Wrote.{Wrote, over}
use Rattle.refusals.specs.declared.Refusal.{Refusal}
use Rattle.refusals.specs.Verdict.{Checks, accepted, refused, passed, and_then}
use Rattle.refusals.specs.Told.{refusal, told, checked}
use Rattle.refusals.specs.Outcome.{Answers, verdict, fits, kept}
use Rattle.refusals.proofs.Answering.{refusal_is, refusal_not, refused_first, accepted_first, refuse_accepted, then_accepted, first_accepted}

module _ {A : Type 0} {checks : Checks} {ws out out' : List A} where
  module _ {why : Refusal} (given : Answers checks ws out (Err why) out') where
    -- with room it was one of the checks
    pub refused_by : length ws ≤ length out → refusal why ≡ checks
    refused_by room = go checks given.answer_is
      where
        go : (v : Checks) → refusal why ≡ verdict v ws out → refusal why ≡ v
        go (accepted x) e = absurd (refusal_not {a = length ws} why (e ∙ rw (le-ltb _ _ room)))
        go (refused k p) e = refused_first 0 why (refused k p) e

    -- and nothing was written
    pub refused_kept : out' ≡ out
    refused_kept = given.out_is ∙ ap (λ v. kept v ws out) (sym given.answer_is ∙ refusal_is why)

  -- as a check: 12 comes after the others
  pub answers_checks : {a : Result ℕ Refusal} → Answers checks ws out a out' → checked a ≡ and_then checks (fits (length out) (length ws))
  answers_checks {a} given = go a (given.answer_is ∙ then_then checks)
    where
      room : Checks
      room = fits (length out) (length ws)

      then_then : (u : Checks) → verdict u ws out ≡ and_then (and_then u room) (accepted (length ws))
      then_then (accepted x) = refl
      then_then (refused k p) = refl

      go : (a : Result ℕ Refusal) → told a ≡ and_then (and_then checks room) (accepted (length ws)) → checked a ≡ and_then checks room
      go (Ok n) e = (accepted_first (length ws) (and_then checks room) e).0
      go (Err why) e = refused_first (length ws) why (and_then checks room) e

  module _ {used : ℕ} (given : Answers checks ws out (Ok used) out') where
    e : accepted used ≡ verdict checks ws out
    e = given.answer_is

    pub accepted_checks : passed ≡ checks
    accepted_checks = first_accepted checks _ e

    last : accepted used ≡ and_then (fits (length out) (length ws)) (accepted (length ws))
    last = then_accepted checks _ e

    pub accepted_room : length ws ≤ length out
    accepted_room = ltb-false _ _ (refuse_accepted (ltb (length out) (length ws)) _ _ _ (first_accepted (fits (length out) (length ws)) _ last)).0

    pub accepted_wrote : Wrote ws out 0 out' used
    unfolding over
    accepted_wrote =
        let u = then_accepted (fits (length out) (length ws)) _ last in
        let used-is : used ≡ length ws = cc in
        record { next_is = used-is ∙ sym (zero-add (length ws)); left = given.out_is ∙ ap (λ v. kept v ws out) (sym e) ∙ rw used-is }
