-- What the ghost field of `Formula` says has one proof at most, as a ghost field asks: words are those of one row of sections alone.
use mathlib.Core.Path.{◌≡◌, refl, sym, ap, ◌∙◌}
use mathlib.Core.List.{List, [], ◌∷◌, ◌++◌, append_assoc, flat_map}
use mathlib.Core.HLevel.{is_prop→PathP}
use Prim.Native.Nat.{ℕ, zero, suc, ◌≤◌}
use native.Mathlib.Omega.{arith}
use Rattle.std.specs.Coded.{le_prop}
use Rattle.std.proofs.Props.{props}
use lib.IntN.{ℤ, pos, nat_abs}
use lib.ListN.{length, take, drop, length-append}
use lib.Seq.{take_at, drop_at}
use Rattle.lists.specs.Each.{Every}
use Rattle.sections.specs.Sections.{Clause, clause_words, clauses_words, section_words, sections_words}
use Rattle.formulas.specs.Clauses.{SectionFine, Formed, ahead_words}

pub next_clause : (c : Clause) (cs : List Clause) (ss : List (List Clause)) → ahead_words (c ∷ cs) ss ≡ pos (length c) ∷ (c ++ ahead_words cs ss)
unfolding flat_map clause_words
next_clause c cs ss = ap (λ (l : List ℤ). pos (length c) ∷ l) (append_assoc c (clauses_words cs) (sections_words ss))

pub next_section : (s : List Clause) (ss : List (List Clause)) → ahead_words [] (s ∷ ss) ≡ pos (length s) ∷ ahead_words s ss
unfolding flat_map section_words
next_section s ss = refl

pub none_ahead : ahead_words [] [] ≡ []
unfolding flat_map
none_ahead = refl

same_front : {n m : ℕ} {us vs : List ℤ} → pos n ∷ us ≡ pos m ∷ vs → (n ≡ m) × (us ≡ vs)
same_front {n} {m} e = let q : pos n ≡ pos m = cc in (ap nat_abs q, cc)

same_ahead : (k : ℕ) (cs ds : List Clause) (ss ts : List (List Clause)) → length (ahead_words cs ss) ≤ k → length cs ≡ length ds → ahead_words cs ss ≡ ahead_words ds ts → (cs ≡ ds) × (ss ≡ ts)
same_ahead k [] (d ∷ ds) ss ts h l e = absurd (omega arith)
same_ahead k (c ∷ cs) [] ss ts h l e = absurd (omega arith)
same_ahead k [] [] [] [] h l e = (refl, refl)
same_ahead k [] [] [] (t ∷ ts) h l e = absurd (omega (arith, ap length (sym none_ahead ∙ e ∙ next_section t ts)))
same_ahead k [] [] (s ∷ ss) [] h l e = absurd (omega (arith, ap length (sym (next_section s ss) ∙ e ∙ none_ahead)))
same_ahead zero [] [] (s ∷ ss) (t ∷ ts) h l e = absurd (omega (arith, ap length (next_section s ss)))
same_ahead (suc k) [] [] (s ∷ ss) (t ∷ ts) h l e =
    let f = same_front (sym (next_section s ss) ∙ e ∙ next_section t ts) in
    let r = same_ahead k s t ss ts (omega (arith, ap length (next_section s ss))) f.0 f.1 in
    (refl, rw (r.0, r.1))
same_ahead zero (c ∷ cs) (d ∷ ds) ss ts h l e = absurd (omega (arith, ap length (next_clause c cs ss)))
same_ahead (suc k) (c ∷ cs) (d ∷ ds) ss ts h l e =
    let f = same_front (sym (next_clause c cs ss) ∙ e ∙ next_clause d ds ts) in
    let front : c ≡ d = sym (take_at c (ahead_words cs ss) (length c) refl) ∙ ap (take (length c)) f.1 ∙ take_at d (ahead_words ds ts) (length c) (sym f.0) in
    let back : ahead_words cs ss ≡ ahead_words ds ts = sym (drop_at c (ahead_words cs ss) (length c) refl) ∙ ap (drop (length c)) f.1 ∙ drop_at d (ahead_words ds ts) (length c) (sym f.0) in
    let r = same_ahead k cs ds ss ts (omega (arith, ap length (next_clause c cs ss), length-append c (ahead_words cs ss))) (omega arith) back in
    (rw (front, r.0), r.1)

module _ {ws : List ℤ} (F G : Formed ws) where
  same_sections : F.sections ≡ G.sections
  unfolding flat_map
  same_sections = (same_ahead (length (sections_words F.sections)) [] [] F.sections G.sections (omega arith) refl (sym F.words_are ∙ G.words_are)).1

pub formed_prop : (ws : List ℤ) → IsProp (Formed ws)
formed_prop ws F G = λ i. record {
  sections = same_sections F G i;
  words_are = is_prop→PathP (λ j. ws ≡ sections_words (same_sections F G j)) (λ j. hlevel props) F.words_are G.words_are i;
  fine = is_prop→PathP (λ j. Every [] SectionFine (same_sections F G j)) (λ j. hlevel props) F.fine G.fine i;
  few = le_prop F.few G.few i;
}
