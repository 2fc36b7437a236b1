-- The clause buffer of an accepted puzzle is clause words of its V variables in ten sections, none of them wrong; and they hold its clauses.
use mathlib.Core.Path.{◌≡◌, refl}
use native.Mathlib.Omega.{arith}
use lib.ListN.{length}
use Rattle.refusals.specs.Verdict.{passed}
use Rattle.puzzles.specs.Puzzle.{Puzzle}
use Rattle.puzzles.specs.Good.{Good}
use Rattle.numbering.specs.Variables.{variables}
use Rattle.numbering.proofs.Bounds.{variables_most}
use Rattle.counts.specs.Families.{families, clauses, buffer}
use Rattle.counts.proofs.Totals.{buffer_most}
use Rattle.formulas.specs.Walk.{word_checks, clauses_of}
use Rattle.formulas.proofs.Accepting.{words_accepted, words_hold}
use Rattle.clauses.proofs.ClauseVariables.{families_fine}

ten : (z : Puzzle) → length (families z) ≡ 10
unfolding families
ten z = refl

module _ (z : Puzzle) (G : Good z) where
  pub buffer_accepted : passed ≡ word_checks (variables z) 10 (buffer z)
  buffer_accepted = words_accepted (variables z) 10 (families z) (omega (arith, variables_most z G)) (omega arith) (buffer_most z G) (ten z) (families_fine z G)

  pub buffer_holds : clauses_of (variables z) 10 (buffer z) ≡ clauses z
  buffer_holds = words_hold (variables z) 10 (families z) (omega (arith, variables_most z G)) (omega arith) (buffer_most z G) (ten z) (families_fine z G)
