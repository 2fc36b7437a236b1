-- The colours of K are the palette, ascending, each once.
use mathlib.Core.Path.{◌≡◌, refl, sym, ap, ◌∙◌}
use mathlib.Core.Logic.{◌⊎◌, inl, inr, ⊎_elim}
use mathlib.Core.Bool.{Bool, true, false, false≢true}
use mathlib.Core.List.{List, [], ◌∷◌, ◌++◌, append-nil}
use Prim.Native.Nat.{ℕ, zero, suc, ◌≤◌, ◌<◌}
use native.Mathlib.Omega.{arith}
use native.Mathlib.Decide.{ℕ_discrete, dec_lt}
use lib.Dec.{eqb}
use lib.ListN.{length, get_or, length-append, get_or-append}
use lib.Pow.{pow_mono}
use lib.Seq.{get_or_at}
use borrow.Author.Tests.{eq-eqb, eqb-true}
use Rattle.lists.specs.Each.{each, when}
use Rattle.bits.specs.Bits.{bit}
use Rattle.bits.proofs.SetBits.{bit_beyond}
use Rattle.puzzles.specs.Puzzle.{Puzzle}
use Rattle.puzzles.specs.Checks.{colors}
use Rattle.puzzles.proofs.ColorSets.{set_within}
use Rattle.numbering.specs.Variables.{palette, hues, hue}
use Rattle.numbering.proofs.Palettes.{color_of}
use Rattle.pictures.specs.Pictures.{IsColor}

-- a colour of K from 1 to n
record Hue (K n c : ℕ) : Type 0 where
  some : 0 < c
  most : c ≤ n
  known : bit K c ≡ true

-- the list has these, all of them, ascending
record Listed (K n : ℕ) (l : List ℕ) : Type 0 where
  hues_only : (r : ℕ) → r < length l → Hue K n (get_or l r 0)
  all : (c : ℕ) → Hue K n c → (r : ℕ) × (r < length l) × (get_or l r 0 ≡ c)
  rising : (r s : ℕ) → r < s → s < length l → get_or l r 0 < get_or l s 0

wider : {K n c : ℕ} → Hue K n c → Hue K (suc n) c
wider H = record { some = H.some; most = omega (arith, H.most); known = H.known }

narrower : {K n c : ℕ} → Hue K (suc n) c → (c ≡ suc n → ⊥) → Hue K n c
narrower H p = record { some = H.some; most = omega (arith, H.most); known = H.known }

module _ (K n : ℕ) (l : List ℕ) (L : Listed K n l) where
  abbrev longer : List ℕ
  longer = l ++ (suc n ∷ [])

  before : (r : ℕ) → r < length l → get_or longer r 0 ≡ get_or l r 0
  before r h = get_or-append l _ 0 r h

  last : (r : ℕ) → r < length longer → (r < length l → ⊥) → get_or longer r 0 ≡ suc n
  last r h i = get_or_at l (suc n) [] 0 r (omega (arith, length-append l (suc n ∷ [])))

  -- the next number is in K, or not
  listed_next : (b : Bool) → bit K (suc n) ≡ b → Listed K (suc n) (l ++ when b (suc n ∷ []))
  listed_next true e = record {
    hues_only = λ r h. elim (dec_lt r (length l)) [
      | yes i ↦ rw (before r i) (wider (L.hues_only r i))
      | no i ↦ rw (last r h i) (record { some = omega arith; most = omega arith; known = e })
    ];
    all = λ c H. elim (ℕ_discrete c (suc n)) [
      | yes p ↦ (length l, omega (arith, length-append l (suc n ∷ [])), get_or_at l (suc n) [] 0 (length l) refl ∙ sym p)
      | no p ↦ let (r, h, q) = L.all c (narrower H p) in (r, omega (arith, length-append l (suc n ∷ [])), before r h ∙ q)
    ];
    rising = λ r s h i. elim (dec_lt s (length l)) [
      | yes j ↦ omega (arith, before r (omega arith), before s j, L.rising r s h j)
      | no j ↦
          let k : r < length l = omega (arith, length-append l (suc n ∷ [])) in
          omega (arith, before r k, last s i j, (L.hues_only r k).most)
    ];
  }
  listed_next false e =
      rw append-nil
      (record {
        hues_only = λ r h. wider (L.hues_only r h);
        all = λ c H. L.all c (narrower H (λ p. false≢true (sym e ∙ ap (bit K) (sym p) ∙ H.known)));
        rising = L.rising;
      })

listed : (K n : ℕ) → Listed K n (each n (color_of K))
unfolding each
listed K zero = record {
  hues_only = λ r h. absurd (omega arith);
  all = λ c H. absurd (omega (arith, H.some, H.most));
  rising = λ r s h i. absurd (omega arith);
}
listed K (suc n) = listed_next K n _ (listed K n) (bit K (suc n)) refl

module _ (K : ℕ) where
  palette_listed : Listed K 31 (palette K)
  unfolding palette
  palette_listed = listed K 31

  -- each colour of K is in the palette
  pub palette_all : (c : ℕ) → 0 < c → c ≤ 31 → bit K c ≡ true → (r : ℕ) × (r < length (palette K)) × (get_or (palette K) r 0 ≡ c)
  palette_all c h i e = palette_listed.all c (record { some = h; most = i; known = e })

-- ---- the colours of a puzzle

module _ (z : Puzzle) where
  L : Listed (colors z) 31 (palette (colors z))
  L = palette_listed (colors z)

  -- the palette has colours of K
  pub hue_known : (r : ℕ) → r < hues z → (0 < hue z r) × (bit (colors z) (hue z r) ≡ true)
  hue_known r h = ((L.hues_only r h).some, (L.hues_only r h).known)

  pub hue_most : (r : ℕ) → r < hues z → hue z r ≤ 31
  hue_most r h = (L.hues_only r h).most

  -- all of them
  pub known_hue : (c : ℕ) → 0 < c → bit (colors z) c ≡ true → (r : ℕ) × (r < hues z) × (hue z r ≡ c)
  known_hue c h e = elim (dec_lt c 32) [
    | yes i ↦ palette_all (colors z) c h (omega arith) e
    | no i ↦ absurd (false≢true (sym (bit_beyond (colors z) c (omega (arith, set_within z.rows, pow_mono {i = 32} {j = c} (omega arith)))) ∙ e))
  ]

  -- each once
  pub hue_once : (r s : ℕ) → r < hues z → s < hues z → hue z r ≡ hue z s → r ≡ s
  hue_once r s h i e = elim (dec_lt r s) [
    | yes j ↦ absurd (omega (arith, L.rising r s j i))
    | no j ↦ elim (dec_lt s r) [ yes k ↦ absurd (omega (arith, L.rising s r k h)) | no k ↦ omega arith ]
  ]

  -- ---- blank, or a colour of K

  pub color_cases : (c : ℕ) → IsColor z c → (c ≡ 0) ⊎ ((r : ℕ) × (r < hues z) × (hue z r ≡ c))
  color_cases zero C = inl refl
  color_cases (suc c) (inl e) = inl e
  color_cases (suc c) (inr e) = inr (known_hue (suc c) (omega arith) e)

  pub color_most : (c : ℕ) → IsColor z c → c ≤ 31
  color_most c C = ⊎_elim (λ e. omega arith) (λ (r, h, e). omega (arith, hue_most r h)) (color_cases c C)

  -- two are the same where they are the same to the test of each colour
  pub same_color : (c d : ℕ) → IsColor z c → IsColor z d → ((r : ℕ) → r < hues z → eqb c (hue z r) ≡ eqb d (hue z r)) → c ≡ d
  same_color c d C D e = elim (color_cases c C) [
    | inr (r, h, q) ↦ sym (eqb-true d (hue z r) (sym (e r h) ∙ eq-eqb c (hue z r) (sym q)) ∙ q)
    | inl n ↦ elim (color_cases d D) [
      | inr (r, h, q) ↦ eqb-true c (hue z r) (e r h ∙ eq-eqb d (hue z r) (sym q)) ∙ q
      | inl m ↦ n ∙ sym m
    ]
  ]
