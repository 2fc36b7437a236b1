-- The loop that counts the clauses and words of the probes, one after another.
use mathlib.Core.Path.{◌≡◌, refl, ap, ◌∙◌}
use mathlib.Core.List.{List, [], ◌∷◌, ◌++◌, flatten, flat_map}
use Prim.Native.Nat.{ℕ, ◌+◌, ◌*◌, ◌^◌, ◌≤◌, ◌<◌}
use native.Mathlib.Omega.{arith}
use lib.ListN.{length, length-append}
use Rattle.lists.proofs.Eaches.{flat_append}
use Rattle.sections.specs.Sections.{Clause, clauses_words, clause_words}
use Rattle.boards.specs.declared.board.Board.{Board}
use Rattle.numbering.specs.Variables.{palette}
use Rattle.implications.specs.declared.count.Extent.{Extent}
use Rattle.implied.specs.ByWords.{of_probe}
use Rattle.implications.specs.Sizes.{ExtentIs}
use Rattle.implications.proofs.ProbePlaces.{Few, few_next}
use Rattle.implications.proofs.ProbeSizes.{sized_most}

-- ---- the clauses of parts

abbrev pub of_parts : Board → List ℕ → List (List ℕ) → List Clause
of_parts b cs parts = flat_map (of_probe b cs) parts

pub of_more : (b : Board) (cs part : List ℕ) (more : List (List ℕ)) → of_parts b cs (part ∷ more) ≡ of_probe b cs part ++ of_parts b cs more
unfolding flat_map
of_more b cs part more = refl

pub of_none : (b : Board) (cs : List ℕ) → of_parts b cs [] ≡ []
unfolding flat_map
of_none b cs = refl

-- how many they are, and their words
abbrev size_of : List Clause → Extent
size_of cs = record { clauses = length cs; words = length (clauses_words cs) }

abbrev size : Board → List (List ℕ) → Extent
size b parts = size_of (of_parts b (palette b.colors) parts)

module _ (b : Board) (part : List ℕ) (more : List (List ℕ)) where
  abbrev cs : List Clause
  cs = of_probe b (palette b.colors) part

  size_more : ((size b (part ∷ more)).clauses ≡ length cs + (size b more).clauses) × ((size b (part ∷ more)).words ≡ length (clauses_words cs) + (size b more).words)
  size_more =
      let ds = of_parts b (palette b.colors) more in
      rw of_more (length-append cs ds, ap length (flat_append clause_words cs ds) ∙ length-append (clauses_words cs) (clauses_words ds))

size_none : (b : Board) → ((size b []).clauses ≡ 0) × ((size b []).words ≡ 0)
unfolding flat_map
size_none b = (refl, refl)

size_most : (b : Board) → b.colors < 2 ^ 32 → (parts : List (List ℕ)) → ((size b parts).clauses ≤ 11 * length (flatten parts)) × ((size b parts).words ≤ 363 * length (flatten parts))
unfolding flatten
size_most b small [] = (omega (arith, size_none b), omega (arith, size_none b))
size_most b small (part ∷ more) =
    let m = size_most b small more in
    let n = size_more b part more in
    let l = length-append part (flatten more) in
    let o = sized_most b b.colors small part {size = size_of (of_probe b (palette b.colors) part)} (record { clauses_is = refl; words_is = refl }) in
    (omega (arith, m.0, n.0, l, o.0), omega (arith, m.1, n.1, l, o.1))

-- ---- the loop, where it has counted some, and the rest are ahead

pub record Counting (b : Board) (parts : List (List ℕ)) (clauses words : ℕ) (rest : List (List ℕ)) : Type 0 where
  pub few : Few b.width b.height b.colors rest
  pub clauses_are : clauses + (size b rest).clauses ≡ (size b parts).clauses
  pub words_are : words + (size b rest).words ≡ (size b parts).words

pub counting_first : {b : Board} {parts : List (List ℕ)} → Few b.width b.height b.colors parts → Counting b parts 0 0 parts
counting_first F = record { few = F; clauses_are = omega arith; words_are = omega arith }

module _ {b : Board} {parts rest : List (List ℕ)} {clauses words : ℕ} (C : Counting b parts clauses words rest) where
  pub counting_next : {part : List ℕ} {more : List (List ℕ)} → rest ≡ part ∷ more → {size : Extent} → ExtentIs (of_probe b (palette b.colors) part) size
      → Counting b parts (clauses + size.clauses) (words + size.words) more
  counting_next {part} {more} e S =
      let n = size_more b part more in
      record {
        few = few_next C.few e;
        clauses_are = omega (arith, C.clauses_are, ap (λ r. (size b r).clauses) e, n.0, S.clauses_is);
        words_are = omega (arith, C.words_are, ap (λ r. (size b r).words) e, n.1, S.words_is);
      }

  pub counted_most : b.colors < 2 ^ 32 → Few b.width b.height b.colors parts → (clauses < 2147483648) × (words < 2147483648)
  counted_most small F = let m = size_most b small parts in (omega (arith, C.clauses_are, m.0, F.few), omega (arith, C.words_are, m.1, F.few))

  pub counting_done : rest ≡ [] → ExtentIs (of_parts b (palette b.colors) parts) (record { clauses = clauses; words = words })
  counting_done e = record {
    clauses_is = omega (arith, C.clauses_are, ap (λ r. (size b r).clauses) e, size_none b);
    words_is = omega (arith, C.words_are, ap (λ r. (size b r).words) e, size_none b);
  }
