-- Words that are accepted: they are the words of sections with good literals, and the clauses that they hold are those.
use mathlib.Core.Path.{◌≡◌, sym, ap, ◌∙◌}
use mathlib.Core.List.{List, [], append-nil, flatten}
use Prim.Native.Nat.{ℕ, ◌≤◌}
use native.Mathlib.Nat.{zero-add}
use lib.Dec.{ltb}
use lib.IntN.{ℤ, pos}
use lib.ListN.{length, get_or}
use borrow.Author.Tests.{le-ltb, ltb-false}
use Rattle.lists.specs.Each.{Every}
use Rattle.refusals.specs.Verdict.{passed}
use Rattle.refusals.specs.Walk.{got, walked, read_or, times}
use Rattle.refusals.proofs.Answering.{refuse_accepted}
use Rattle.refusals.proofs.Readers.{walked_is}
use Rattle.literals.proofs.Readings.{literal_is}
use Rattle.sections.specs.Sections.{Clause, sections_words}
use Rattle.formulas.specs.Walk.{read_section, word_checks, clauses_of}
use Rattle.formulas.specs.Clauses.{SectionFine, Formed, clauses_in}
use Rattle.formulas.proofs.Readers.{FineSection, sections_reader}
use Rattle.formulas.proofs.Ahead.{clauses_in_words}

-- the sections that words hold
abbrev held : ℕ → ℕ → List ℤ → List (List Clause)
held v n ws = read_or [] (times n (read_section v) 0 ws)

record Held (v n : ℕ) (ws : List ℤ) : Type 0 where
  pub few : length ws ≤ 1073741824
  pub words_are : ws ≡ sections_words (held v n ws)
  pub fine : Every [] (FineSection v) (held v n ws)

module _ (v n : ℕ) (ws : List ℤ) where
  module _ (e : passed ≡ word_checks v n ws) where
    accepted_held : Held v n ws
    accepted_held =
        let a = refuse_accepted (ltb 1000000 v) _ _ _ e in
        let b = refuse_accepted (ltb 16 n) _ _ _ a.1 in
        let c = refuse_accepted (ltb 1073741824 (length ws)) _ _ _ b.1 in
        let w = walked_is [] 22 (times n (read_section v) 0 ws) ((sections_reader v n).only 0 ws) c.1 in
        record { few = ltb-false _ _ c.0; words_are = w.0; fine = w.1.1 }

    variables_are : Every [] SectionFine (held v n ws)
    variables_are s h i g j l = (literal_is v (get_or (get_or (get_or (held v n ws) s []) i []) j (pos 0)) (accepted_held.fine s h i g j l)).0

    -- the second walk can go over them
    pub accepted_formed : Formed ws
    accepted_formed = record { sections = held v n ws; words_are = accepted_held.words_are; fine = variables_are; few = accepted_held.few }

    -- and finds their clauses
    pub accepted_clauses : clauses_in ws ≡ clauses_of v n ws
    accepted_clauses = ap clauses_in accepted_held.words_are ∙ clauses_in_words (held v n ws)

-- ---- the words of such sections are accepted, and hold them

module _ (v n : ℕ) (ss : List (List Clause)) (v-few : v ≤ 1000000) (n-few : n ≤ 16) (few : length (sections_words ss) ≤ 1073741824) (n-is : length ss ≡ n) (fine : Every [] (FineSection v) ss) where
  reads : times n (read_section v) 0 (sections_words ss) ≡ got ss (length (sections_words ss)) []
  reads =
      ap (times n (read_section v) 0) (sym (append-nil (sections_words ss)))
      ∙ (sections_reader v n).back 0 ss [] (n-is, fine)
      ∙ ap (λ k. got ss k []) (zero-add (length (sections_words ss)))

  pub words_accepted : passed ≡ word_checks v n (sections_words ss)
  unfolding walked
  words_accepted = rw (le-ltb _ _ v-few, le-ltb _ _ n-few, le-ltb _ _ few, reads)

  pub words_hold : clauses_of v n (sections_words ss) ≡ flatten ss
  unfolding read_or
  words_hold = rw reads
