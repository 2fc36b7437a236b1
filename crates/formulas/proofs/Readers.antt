-- What each reader reads: exactly the words of clauses with good literals, and such words are read as those.
use mathlib.Core.Path.{◌≡◌, refl}
use mathlib.Core.Bool.{false}
use mathlib.Core.List.{List, [], ◌∷◌, flat_map}
use Prim.Native.Nat.{ℕ}
use lib.IntN.{ℤ, pos}
use lib.ListN.{length}
use Rattle.lists.specs.Each.{Every}
use Rattle.refusals.specs.Walk.{times}
use Rattle.refusals.proofs.Readers.{Reader, word_reader, times_reader, listed_reader}
use Rattle.literals.specs.Literals.{off_literal}
use Rattle.literals.proofs.Signs.{is_positive}
use Rattle.sections.specs.Sections.{Clause, clause_words, clauses_words, section_words, sections_words}
use Rattle.formulas.specs.Walk.{read_literal, read_clause, read_section}

-- literals, clauses and sections, of v variables
module _ (v : ℕ) where
  abbrev pub IsLiteral : ℤ → Type 0
  IsLiteral z = off_literal v z ≡ false

  pub literal_reader : Reader (read_literal v) (λ z. z ∷ []) IsLiteral
  literal_reader = word_reader 22 (off_literal v) 22

  abbrev pub FineClause : Clause → Type 0
  FineClause = Every (pos 0) IsLiteral

  pub clause_reader : Reader (read_clause v) clause_words FineClause
  unfolding clause_words
  clause_reader = listed_reader (pos 0) literal_reader (λ l. l) refl (λ z l. refl) pos (λ n. refl) 22 is_positive 22 (λ n. refl)

  abbrev pub FineSection : List Clause → Type 0
  FineSection = Every [] FineClause

  pub section_reader : Reader (read_section v) section_words FineSection
  unfolding flat_map section_words
  section_reader = listed_reader [] clause_reader clauses_words refl (λ c cs. refl) pos (λ n. refl) 22 is_positive 22 (λ n. refl)

  -- n of them
  pub sections_reader : (n : ℕ) → Reader (times n (read_section v)) sections_words (λ ss. (length ss ≡ n) × Every [] FineSection ss)
  unfolding flat_map
  sections_reader n = times_reader [] section_reader sections_words refl (λ s ss. refl) n
