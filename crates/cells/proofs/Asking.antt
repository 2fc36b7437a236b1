-- A line that is asked, and what was found in it.
use mathlib.Core.Path.{◌≡◌, ap}
use mathlib.Core.List.{List, ◌++◌}
use Prim.Native.Nat.{ℕ, ◌+◌, ◌≤◌}
use native.Mathlib.Omega.{arith}
use lib.ListN.{length, length-append}
use lib.IntN.{ℤ}
use Rattle.lists.proofs.Eaches.{flat_append}
use Rattle.lists.specs.Wrote.{Wrote}
use Rattle.lists.proofs.Writing.{wrote_kept, wrote_then}
use Rattle.sections.specs.Sections.{Clause, clauses_words, clause_words}
use Rattle.numbering.specs.Variables.{Line}
use Rattle.numbering.specs.Tables.{Sound}
use Rattle.cells.specs.Cells.{covering}
use Rattle.cells.specs.Found.{AreVariables}
use Rattle.cells.proofs.CoveringPositions.{covering_most, covering_variables}

-- what was found in a line
module _ {L : Line} (S : Sound L) (c t : ℕ) {us : List ℕ} (e : us ≡ covering L c t) where
  pub found_variables : AreVariables us
  found_variables = rw e (covering_variables S c t)

  pub found_most : length us ≤ 64
  found_most = rw e (covering_most S c t)

-- two lists of clauses, one after the other
module _ (cs ds : List Clause) (out : List ℤ) (at : ℕ) (h : at + length (clauses_words (cs ++ ds)) ≤ length out) where
  pub both_first : at + length (clauses_words cs) ≤ length out
  both_first = omega (arith, ap length (flat_append clause_words cs ds), length-append (clauses_words cs) (clauses_words ds))

  module _ {out₁ : List ℤ} {to : ℕ} (w : Wrote (clauses_words cs) out at out₁ to) where
    pub both_second : to + length (clauses_words ds) ≤ length out₁
    both_second = omega (arith, ap length (flat_append clause_words cs ds), length-append (clauses_words cs) (clauses_words ds), wrote_kept both_first w, w.next_is)

    pub both_wrote : {out₂ : List ℤ} {to₂ : ℕ} → Wrote (clauses_words ds) out₁ to out₂ to₂ → Wrote (clauses_words (cs ++ ds)) out at out₂ to₂
    both_wrote u = rw (flat_append clause_words cs ds) (wrote_then (omega arith) w u)
