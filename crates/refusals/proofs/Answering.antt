-- What a call answers, by the way that it goes: refused by its checks, refused for room, accepted. And that its outcome is determined.
use mathlib.Core.Path.{◌≡◌, refl, sym, ap, ◌∙◌}
use mathlib.Core.Bool.{Bool, true, false}
use mathlib.Core.List.{List}
use Prim.Native.Nat.{ℕ, ◌≤◌, ◌<◌}
use native.Mathlib.Nat.{zero-add}
use native.Mathlib.Omega.{arith}
use lib.ListN.{length}
use borrow.Author.Tests.{lt-ltb, le-ltb}
use Rattle.std.specs.Prelude.{Result, Ok, Err}
use Rattle.std.specs.Result.{IsErrAnd}
use Rattle.std.proofs.lemmas.Result.{err_from_is_err_and}
use Rattle.lists.specs.Wrote.{Wrote}
use Rattle.lists.proofs.Writing.{wrote_over}
use Rattle.refusals.specs.declared.Refusal.{Refusal}
use Rattle.refusals.specs.declared.Refusal.TheVariants.{WordMissing, Size, TooManyBlocks, EmptyBlock, BlockColor, LineTooShort, CellCount, EmptyMask, ColumnColor, SolvedColor, LeftOver, OutputTooShort, ModelLength, ModelByte, FalseClause, TwoColors, OffGrid, ColorTooLarge, ProbeColor, TooManyProbeWords, DimacsLimit, ClauseWords, ProgramInput}
use Rattle.refusals.specs.Verdict.{Verdict, Checks, accepted, refused, passed, number, place, refuse, and_then}
use Rattle.refusals.specs.Told.{refusal, told}
use Rattle.refusals.specs.Outcome.{Answers, Outcome}

pub refusal_is : {A : Type 0} (why : Refusal) → refusal {A = A} why ≡ refused (number (refusal why)) (place (refusal why))
refusal_is (WordMissing p) = refl
refusal_is (Size p) = refl
refusal_is (TooManyBlocks p) = refl
refusal_is (EmptyBlock p) = refl
refusal_is (BlockColor p) = refl
refusal_is (LineTooShort p) = refl
refusal_is (CellCount p) = refl
refusal_is (EmptyMask p) = refl
refusal_is (ColumnColor p) = refl
refusal_is (SolvedColor p) = refl
refusal_is (LeftOver p) = refl
refusal_is (OutputTooShort p) = refl
refusal_is (ModelLength p) = refl
refusal_is (ModelByte p) = refl
refusal_is (FalseClause p) = refl
refusal_is (TwoColors p) = refl
refusal_is (OffGrid p) = refl
refusal_is (ColorTooLarge p) = refl
refusal_is (ProbeColor p) = refl
refusal_is (TooManyProbeWords p) = refl
refusal_is (DimacsLimit p) = refl
refusal_is (ClauseWords p) = refl
refusal_is (ProgramInput p) = refl

-- a refusal is no acceptance
pub refusal_not : {A : Type 0} {a : A} (why : Refusal) → refusal why ≡ accepted a → ⊥
refusal_not why e =
    let u = sym (refusal_is why) ∙ e in
    let z : ◌≡◌ {A = ℕ} 0 1 = cc in
    omega arith

-- what `?` hands up is the refusal that it met
pub handed : {A : Type 0} (r : Result A Refusal) {why : Refusal} → IsErrAnd r (λ e. e ≡ why) → r ≡ Err why
handed r e = let p = err_from_is_err_and r e in p.1 ∙ ap Err p.2

-- a refusal by checks: it goes up unchanged, with whatever would follow
module _ (why : Refusal) {u : Checks} (e : refusal why ≡ u) where
  pub refused_is : u ≡ refused (number (refusal why)) (place (refusal why))
  refused_is = sym e ∙ refusal_is why

  pub handed_up : {B : Type 0} (v : Verdict B) → refusal {A = B} why ≡ and_then u v
  handed_up v = refusal_is why ∙ rw refused_is

  pub refused_fails : passed ≡ u → ⊥
  refused_fails p = refusal_not why (e ∙ sym p)

-- checks that tell what was found
module _ (n : ℕ) where
  pub refused_first : (why : Refusal) (u : Checks) → refusal why ≡ and_then u (accepted n) → refusal why ≡ u
  refused_first why (accepted x) e = absurd (refusal_not why e)
  refused_first why (refused k p) e =
      let f = sym (refusal_is why) ∙ e in
      let k-is : number (refusal why) ≡ k = cc in
      let p-is : place (refusal why) ≡ p = cc in
      refusal_is why ∙ rw (k-is, p-is)

  pub accepted_first : {m : ℕ} (u : Checks) → accepted m ≡ and_then u (accepted n) → (passed ≡ u) × (m ≡ n)
  accepted_first {m} (accepted x) e = (refl, cc)
  accepted_first {m} (refused k p) e = let z : ◌≡◌ {A = ℕ} 0 1 = cc in absurd (omega arith)

  -- which way a single test went
  pub refused_test : (why : Refusal) (b : Bool) (k p : ℕ) → refusal why ≡ refuse b k p (accepted n) → (b ≡ true) × (refusal {A = ℕ} why ≡ refused k p)
  refused_test why true k p e = (refl, e)
  refused_test why false k p e = absurd (refusal_not why e)

  pub accepted_test : (b : Bool) (k p : ℕ) {m : ℕ} → accepted m ≡ refuse b k p (accepted n) → (b ≡ false) × (m ≡ n)
  accepted_test true k p e = let z : ◌≡◌ {A = ℕ} 0 1 = cc in absurd (omega arith)
  accepted_test false k p {m} e = (refl, cc)

-- where it is a refusal, what follows from checks that pass does not matter
pub refused_so : (why : Refusal) (u : Checks) (n : ℕ) → refusal why ≡ and_then u (accepted n) → {X : Type 0} → (refusal {A = ℕ} why ≡ and_then u (accepted n)) × (passed ≡ u → X)
refused_so why u n t = (t, λ p. absurd (refused_fails why (refused_first n why u t) p))

-- what an acceptance says of the checks before it
module _ {A : Type 0} {a : A} where
  pub refuse_accepted : (b : Bool) (k p : ℕ) (v : Verdict A) → accepted a ≡ refuse b k p v → (b ≡ false) × (accepted a ≡ v)
  refuse_accepted true k p v e = let z : ◌≡◌ {A = ℕ} 0 1 = cc in absurd (omega arith)
  refuse_accepted false k p v e = (refl, e)

  pub then_accepted : (u : Checks) (v : Verdict A) → accepted a ≡ and_then u v → accepted a ≡ v
  then_accepted (accepted x) v e = e
  then_accepted (refused k p) v e = let z : ◌≡◌ {A = ℕ} 0 1 = cc in absurd (omega arith)

  pub first_accepted : (u : Checks) (v : Verdict A) → accepted a ≡ and_then u v → passed ≡ u
  first_accepted (accepted x) v e = refl
  first_accepted (refused k p) v e = let z : ◌≡◌ {A = ℕ} 0 1 = cc in absurd (omega arith)

module _ {A : Type 0} (ws out : List A) {checks : Checks} where
  pub answers_refused : (why : Refusal) → refusal why ≡ checks → Answers checks ws out (Err why) out
  answers_refused why e = record { answer_is = refusal_is why ∙ rw (refused_is why e); out_is = rw (refused_is why e) }

  module _ (e : passed ≡ checks) where
    pub answers_short : {need : ℕ} → need ≡ length ws → length out < need → Answers checks ws out (Err (OutputTooShort need)) out
    answers_short l h =
        let h' : length out < length ws = omega arith in
        record { answer_is = rw (← e, lt-ltb _ _ h', l); out_is = rw (← e, lt-ltb _ _ h') }

    pub answers_wrote : length ws ≤ length out → {out' : List A} {used : ℕ} → Wrote ws out 0 out' used → Answers checks ws out (Ok used) out'
    answers_wrote h w =
        let used-is = w.next_is ∙ zero-add (length ws) in
        record { answer_is = rw (← e, le-ltb _ _ h, used-is); out_is = rw (← e, le-ltb _ _ h) (wrote_over w) }

    -- the checks came before
    pub answers_checked : {a : Result ℕ Refusal} {out' : List A} → Answers passed ws out a out' → Answers checks ws out a out'
    answers_checked x = rw (← e) x

  pub outcome_of : {answer : Result ℕ Refusal} {out' : List A} → Answers checks ws out answer out' → {n p : ℕ} → n ≡ number (told answer) → p ≡ place (told answer)
      → Outcome checks ws out n p out'
  outcome_of a e f = record { number_is = e ∙ ap number a.answer_is; place_is = f ∙ ap place a.answer_is; out_is = a.out_is }

  -- two outcomes of one call are equal: number, place and every word
  pub outcome_determined : {n p m q : ℕ} {out' out'' : List A} → Outcome checks ws out n p out' → Outcome checks ws out m q out''
      → (n ≡ m) × (p ≡ q) × (out' ≡ out'')
  outcome_determined a b = (a.number_is ∙ sym b.number_is, a.place_is ∙ sym b.place_is, a.out_is ∙ sym b.out_is)

-- refused by the first of two checks
pub answers_first : {A : Type 0} (ws out : List A) {checks : Checks} (v : Checks) (why : Refusal) → refusal why ≡ checks → Answers (and_then checks v) ws out (Err why) out
answers_first ws out v why e = answers_refused ws out why (handed_up why e v)
