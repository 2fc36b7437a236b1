-- Two lists of clauses tested, one after the other.
use mathlib.Core.Path.{◌≡◌, sym, ◌∙◌}
use mathlib.Core.List.{List, ◌++◌}
use Prim.Native.Nat.{ℕ}
use native.Mathlib.Omega.{arith}
use lib.ListN.{length-append}
use Rattle.refusals.specs.declared.Refusal.{Refusal}
use Rattle.refusals.specs.Verdict.{Verdict, accepted}
use Rattle.refusals.specs.Told.{refusal}
use Rattle.refusals.proofs.Answering.{refusal_is}
use Rattle.sections.specs.Sections.{Clause}
use Rattle.truth.specs.Truth.{Assignment}
use Rattle.truth.specs.Tested.{tested, Countable}
use Rattle.truth.proofs.Testing.{tested_on, tested_off, tested_place}

pub joined_first : (p : ℕ) (cs ds : List Clause) → Countable p (cs ++ ds) → Countable p cs
joined_first p cs ds r = omega (arith, length-append cs ds)

module _ (β : Assignment) (p : ℕ) (cs ds : List Clause) where
  pub joined_stop : (why : Refusal) → refusal why ≡ tested β p cs → refusal why ≡ tested β p (cs ++ ds)
  joined_stop why e = refusal_is why ∙ tested_off β _ p _ cs ds (sym (refusal_is why) ∙ e)

  module _ {q : ℕ} (e : accepted q ≡ tested β p cs) where
    pub joined_second : Countable p (cs ++ ds) → Countable q ds
    joined_second r = omega (arith, length-append cs ds, tested_place β p q cs e)

    pub joined_done : {v : Verdict ℕ} → v ≡ tested β q ds → v ≡ tested β p (cs ++ ds)
    joined_done f = rw (tested_on β p q cs ds e) f
