-- How many clauses and words the section of probes has.
use Rattle.std.specs.Prelude.{◌≡◌, cond, List, ℕ, ◌*◌, ◌+◌, ◌/◌, eqb, length, get_or}
use Rattle.lists.specs.Each.{sum}
use Rattle.sections.specs.Sections.{Clause, clauses_words}
use Rattle.bits.specs.Bits.{bit}
use Rattle.numbering.specs.Variables.{palette}
use Rattle.implications.specs.declared.count.Extent.{Extent}

-- a blank impact gives a clause for each colour, a coloured one a single clause if its colour is in K, and else none
unfoldable pub impact_count : ℕ → ℕ → ℕ
impact_count K c = cond (eqb c 0) (length (palette K)) (cond (bit K c) 1 0)

-- the impacts of three words each
unfoldable pub impacts_count : ℕ → List ℕ → ℕ
impacts_count K ws = sum (length ws / 3) (λ j. impact_count K (get_or ws (3 * j + 2) 0))

-- the counts that the code keeps of clauses
pub record ExtentIs (cs : List Clause) (s : Extent) : Type 0 where
  pub clauses_is : s.clauses ≡ length cs
  pub words_is : s.words ≡ length (clauses_words cs)
