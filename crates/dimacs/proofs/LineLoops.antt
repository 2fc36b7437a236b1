-- The loops over all lines: how many and how long they are, and their text.
use mathlib.Core.Path.{◌≡◌, refl, ap}
use mathlib.Core.List.{List, [], ◌∷◌, ◌++◌, flatten, flat_map}
use Prim.Native.Nat.{ℕ, suc, ◌+◌, ◌*◌, ◌≤◌}
use native.Mathlib.Omega.{arith}
use lib.IntN.{ℤ}
use lib.ListN.{length, length-append}
use Rattle.lists.proofs.Eaches.{flat_append}
use Rattle.lists.proofs.Everys.{every_flat}
use Rattle.lists.specs.Wrote.{Wrote}
use Rattle.lists.proofs.Writing.{Filling, fill_room, fill_next, fill_done}
use Rattle.sections.specs.Sections.{Clause, clause_words, clauses_words, section_words, sections_words}
use Rattle.dimacs.specs.Text.{clause_text, clauses_text}
use Rattle.formulas.specs.Clauses.{AreVariables, SectionFine, Formed, clauses_in}
use Rattle.dimacs.proofs.ClauseLines.{clause_most}
use Rattle.formulas.proofs.Ahead.{clauses_in_words}

-- ---- no more lines than words, and at most nine bytes to a word

-- good clauses, of no more words than are taken
pub record Few (cs : List Clause) : Type 0 where
  pub fine : SectionFine cs
  pub few : length (clauses_words cs) ≤ 1073741824

flatten_words : (ss : List (List Clause)) → length (clauses_words (flatten ss)) ≤ length (sections_words ss)
unfolding flatten flat_map section_words
flatten_words [] = omega arith
flatten_words (s ∷ ss) =
    omega (arith, flatten_words ss, ap length (flat_append clause_words s (flatten ss)), length-append (clauses_words s) (clauses_words (flatten ss)), length-append (clauses_words s) (sections_words ss))

pub few_first : {ws : List ℤ} → Formed ws → Few (clauses_in ws)
few_first F = rw (F.words_are, clauses_in_words F.sections) (record { fine = every_flat [] AreVariables F.sections F.fine; few = omega (arith, flatten_words F.sections, ap length F.words_are, F.few) })

few_more : (c : Clause) (more : List Clause) → Few (c ∷ more) → (AreVariables c × (length c ≤ 1073741824)) × Few more
unfolding flat_map clause_words
few_more c more F = let w = length-append c (clauses_words more) in ((F.fine 0 (omega arith), omega (arith, F.few, w)), record { fine = λ k h. F.fine (suc k) (omega arith); few = omega (arith, F.few, w) })

module _ {rest more : List Clause} {c : Clause} (F : Few rest) (e : rest ≡ c ∷ more) where
  pub few_clause : AreVariables c × (length c ≤ 1073741824)
  few_clause = (few_more c more (rw e at F)).0

  pub few_next : Few more
  few_next = (few_more c more (rw e at F)).1

text_most : (cs : List Clause) → SectionFine cs → (length cs ≤ length (clauses_words cs)) × (length (clauses_text cs) ≤ 9 * length (clauses_words cs))
unfolding flat_map clause_words
text_most [] f = (omega arith, omega arith)
text_most (c ∷ cs) f =
    let m = text_most cs (λ i h. f (suc i) (omega arith)) in
    let w = length-append c (clauses_words cs) in
    (omega (arith, m.0, w), omega (arith, m.1, w, length-append (clause_text c) (clauses_text cs), clause_most c (f 0 (omega arith))))

module _ {cs : List Clause} (F : Few cs) where
  pub lines_few : length cs ≤ 1073741824
  lines_few = omega (arith, (text_most cs F.fine).0, F.few)

  pub bytes_few : length (clauses_text cs) ≤ 9663676416
  bytes_few = omega (arith, (text_most cs F.fine).1, F.few)

text_next : (c : Clause) (more : List Clause) → length (clauses_text (c ∷ more)) ≡ length (clause_text c) + length (clauses_text more)
unfolding flat_map
text_next c more = length-append (clause_text c) (clauses_text more)

text_end : length (clauses_text []) ≡ 0
unfolding flat_map
text_end = refl

-- ---- counted

pub record Counting (cs : List Clause) (clauses bytes : ℕ) (rest : List Clause) : Type 0 where
  pub few : Few rest
  pub clauses_are : clauses + length rest ≡ length cs
  pub bytes_are : bytes + length (clauses_text rest) ≡ length (clauses_text cs)

pub counting_first : {cs : List Clause} → Few cs → Counting cs 0 0 cs
counting_first F = record { few = F; clauses_are = omega arith; bytes_are = omega arith }

module _ {cs rest : List Clause} {clauses bytes : ℕ} (C : Counting cs clauses bytes rest) where
  module _ {c : Clause} {more : List Clause} (e : rest ≡ c ∷ more) {b : ℕ} (n : b ≡ length (clause_text c)) where
    pub counting_line : Counting cs (clauses + 1) (bytes + b) more
    counting_line = record {
      few = few_next C.few e;
      clauses_are = omega (arith, C.clauses_are, ap length e);
      bytes_are = omega (arith, C.bytes_are, ap (λ l. length (clauses_text l)) e, text_next c more);
    }

  pub counting_done : rest ≡ [] → (clauses ≡ length cs) × (bytes ≡ length (clauses_text cs))
  counting_done e = (omega (arith, C.clauses_are, ap length e), omega (arith, C.bytes_are, ap (λ l. length (clauses_text l)) e, text_end))

-- ---- written

pub record LinesFilling (cs : List Clause) (out₀ : List ℕ) (at₀ : ℕ) (out : List ℕ) (to : ℕ) (rest : List Clause) : Type 0 where
  pub few : Few rest
  pub fill : Filling (clauses_text cs) out₀ at₀ (clauses_text rest) out to

module _ {cs rest : List Clause} {out₀ out : List ℕ} {at₀ to : ℕ} (F : LinesFilling cs out₀ at₀ out to rest) where
  module _ {c : Clause} {more : List Clause} (e : rest ≡ c ∷ more) where
    splits : clauses_text rest ≡ clause_text c ++ clauses_text more
    unfolding flat_map
    splits = rw e

    pub line_room : to + length (clause_text c) ≤ length out
    line_room = fill_room F.fill (clause_text c) (clauses_text more) splits

    pub lines_next : {out₁ : List ℕ} {to₁ : ℕ} → Wrote (clause_text c) out to out₁ to₁ → LinesFilling cs out₀ at₀ out₁ to₁ more
    lines_next w = record { few = few_next F.few e; fill = fill_next F.fill _ _ splits w }

  pub lines_wrote : rest ≡ [] → Wrote (clauses_text cs) out₀ at₀ out to
  unfolding flat_map
  lines_wrote e = fill_done F.fill (ap clauses_text e)
