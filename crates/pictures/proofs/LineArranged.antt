-- Families 1 to 8 of one line, over any gap: its true positions are those of one arrangement, and its cells those of its rendering.
use mathlib.Core.Path.{◌≡◌, refl, sym, ◌∙◌}
use mathlib.Core.Bool.{true, false, true≢false, not-eq-not}
use mathlib.Core.List.{List}
use Prim.Native.Nat.{ℕ, ◌≤◌, ◌<◌}
use native.Mathlib.Omega.{arith}
use native.Mathlib.Decide.{dec_lt}
use lib.Dec.{eqb}
use lib.ListN.{length, get_or}
use borrow.Author.Tests.{eq-eqb, eqb-true}
use Rattle.lists.proofs.Tests.{same_tests}
use Rattle.lines.specs.Clue.{Block, packed, min_space, positions}
use Rattle.lines.specs.Arrangement.{Gap, Proper, Arranged, clash, covers, render}
use Rattle.lines.proofs.Packing.{packed_length}
use Rattle.lines.proofs.Rendering.{cell_covered, covered_cell}
use Rattle.numbering.specs.Variables.{Line, many, placed_at, variable}
use Rattle.truth.specs.Truth.{Assignment}
use Rattle.pictures.specs.Meaning.{NotBoth, SomePosition, OnePosition, IsCovered, IsColored}
use Rattle.pictures.proofs.Choices.{choice}

-- each block b stands at its position o b alone
abbrev pub Stand : Assignment → Line → (ℕ → ℕ) → Type 0
Stand β L o = (b i : ℕ) → b < many L → i < L.positions → β (variable L b i) ≡ eqb i (o b)

module _ {g : ℕ → ℕ → ℕ} (G : Gap g) {bs : List Block} (p : Proper bs) {n : ℕ} (fits : min_space g bs ≤ n) (first : ℕ) (β : Assignment) where
  abbrev L : Line
  L = record { first = first; positions = positions g n bs; runs = packed g bs }

  abbrev Apart : Type 0
  Apart = (a b i j : ℕ) → a < b → b < many L → i < L.positions → j < L.positions → clash g (placed_at L a i) (placed_at L b j) ≡ true → NotBoth β (variable L a i) (variable L b j)

  -- block b stands at its position i
  abbrev StandsAt : ℕ → ℕ → Type 0
  StandsAt b i = (i < L.positions) × (β (variable L b i) ≡ true)

  in_line : (b : ℕ) → b < length bs → b < many L
  in_line b h = omega (arith, packed_length g bs)

  in_clue : (b : ℕ) → b < many L → b < length bs
  in_clue b h = omega (arith, packed_length g bs)

  -- ---- families 1 to 6

  pub stands_arranged : SomePosition β L → OnePosition β L → Apart → (o : ℕ → ℕ) × Arranged g n bs o × Stand β L o
  stands_arranged some one apart = (
    o,
    record { fits = fits; below = λ b h. (chosen b (in_line b h)).0; apart = λ a b l h. clear a b l (in_line b h) },
    stand,
  )
    where
      picked : (o : ℕ → ℕ) × ((b : ℕ) → b < many L → StandsAt b (o b))
      picked = choice StandsAt (many L) 0 (λ b h. let (i, k, e) = some b h in (i, (k, e)))

      o : ℕ → ℕ
      o = picked.0

      chosen : (b : ℕ) → b < many L → StandsAt b (o b)
      chosen = picked.1

      clear : (a b : ℕ) → a < b → b < many L → clash g (placed_at L a (o a)) (placed_at L b (o b)) ≡ false
      clear a b l h =
          let (k, e) = chosen a (omega arith) in
          let (i, f) = chosen b h in
          (not-eq-not {b = false}).0 (λ c. apart a b (o a) (o b) l h k i c e f)

      -- a true position is the chosen one
      same : (b i : ℕ) → b < many L → i < L.positions → β (variable L b i) ≡ true → i ≡ o b
      same b i h k e = elim (dec_lt i (o b)) [
        | yes l ↦ absurd (one b i (o b) h l (chosen b h).0 e (chosen b h).1)
        | no l ↦ elim (dec_lt (o b) i) [
          | yes m ↦ absurd (one b (o b) i h m k (chosen b h).1 e)
          | no m ↦ omega arith
        ]
      ]

      stand : Stand β L o
      stand b i h k = same_tests _ _ (λ e. eq-eqb i (o b) (same b i h k e)) (λ e. rw (eqb-true i (o b) e) (chosen b h).1)

  module _ {o : ℕ → ℕ} (A : Arranged g n bs o) (S : Stand β L o) where
    stands : (b : ℕ) → b < many L → β (variable L b (o b)) ≡ true
    stands b h = S b (o b) h (A.below b (in_clue b h)) ∙ eq-eqb (o b) (o b) refl

    stand_is : (b i : ℕ) → b < many L → i < L.positions → β (variable L b i) ≡ true → i ≡ o b
    stand_is b i h k e = eqb-true i (o b) (sym (S b i h k) ∙ e)

    pub arranged_some : SomePosition β L
    arranged_some b h = (o b, A.below b (in_clue b h), stands b h)

    pub arranged_one : OnePosition β L
    arranged_one b i j h l k e f = omega (arith, stand_is b i h (omega arith) e, stand_is b j h k f)

    pub arranged_apart : Apart
    arranged_apart a b i j l h k m c e f =
        let q : clash g (placed_at L a (o a)) (placed_at L b (o b)) ≡ true = rw (← stand_is a i (omega arith) k e, ← stand_is b j h m f) c in
        true≢false (sym q ∙ A.apart a b l (in_clue b h))

    -- ---- families 7 and 8, of a cell t and its variable v of colour c

    module _ {c t v : ℕ} (some : 0 < c) where
      pub cell_shown : IsCovered β L c t v → IsColored β L c t v → β v ≡ eqb (get_or (render g n bs o) t 0) c
      cell_shown covered colored = same_tests _ _ to from
        where
          to : β v ≡ true → eqb (get_or (render g n bs o) t 0) c ≡ true
          to e =
              let (b, i, C, f) = covered e in
              let q : covers (placed_at L b (o b)) t ≡ true = rw (← stand_is b i C.block_in C.position_in f) C.covered in
              eq-eqb _ c (covered_cell G p A t b (in_clue b C.block_in) q ∙ C.color_is)

          from : eqb (get_or (render g n bs o) t 0) c ≡ true → β v ≡ true
          from e =
              let (b, h, q, k) = cell_covered G p A t c some (eqb-true _ c e) in
              colored b (o b) (record { block_in = in_line b h; position_in = A.below b h; color_is = q; covered = k }) (stands b (in_line b h))

      module _ (shows : β v ≡ eqb (get_or (render g n bs o) t 0) c) where
        pub shown_covered : IsCovered β L c t v
        shown_covered e =
            let (b, h, q, k) = cell_covered G p A t c some (eqb-true _ c (sym shows ∙ e)) in
            (b, o b, record { block_in = in_line b h; position_in = A.below b h; color_is = q; covered = k }, stands b (in_line b h))

        pub shown_colored : IsColored β L c t v
        shown_colored b i C f =
            let q : covers (placed_at L b (o b)) t ≡ true = rw (← stand_is b i C.block_in C.position_in f) C.covered in
            shows ∙ eq-eqb _ c (covered_cell G p A t b (in_clue b C.block_in) q ∙ C.color_is)
