-- The first colour that is on, as a loop looks for it; and the colours of cells, one after another.
use mathlib.Core.Path.{◌≡◌, refl, sym, ◌∙◌}
use mathlib.Core.Bool.{true, false}
use mathlib.Core.List.{List, [], ◌∷◌}
use Prim.Native.Nat.{ℕ, suc, ◌+◌, ◌*◌, ◌≤◌, ◌<◌}
use native.Mathlib.Omega.{arith}
use lib.ListN.{length, get_or, set, drop, drop_of_length-le}
use Rattle.lists.specs.Each.{each, tab}
use Rattle.lists.specs.Wrote.{Wrote}
use Rattle.lists.proofs.Dropping.{drop_one}
use Rattle.lists.proofs.Eaches.{length_tab}
use Rattle.lists.proofs.Emitting.{Emitting, emit_first, emit_room, emit_next, emit_done}
use Rattle.lists.proofs.Writing.{wrote_store}
use Rattle.truth.specs.Truth.{Assignment}
use Rattle.pictures.specs.Pictures.{color_of}
use Rattle.models.specs.Shown.{cell_colors}

-- the colours before the r-th are off
abbrev pub Looking : Assignment → ℕ → List ℕ → ℕ → Type 0
Looking β v palette r = color_of β v palette ≡ color_of β (v + r) (drop r palette)

module _ (β : Assignment) (v : ℕ) (palette : List ℕ) where
  module _ {r : ℕ} (L : Looking β v palette r) where
    module _ (h : r < length palette) where
      pub looking_on : β (v + r) ≡ true → get_or palette r 0 ≡ color_of β v palette
      unfolding color_of
      looking_on e = sym (L ∙ rw (drop_one 0 palette r h, e))

      pub looking_off : β (v + r) ≡ false → Looking β v palette (r + 1)
      unfolding color_of
      looking_off e =
          let q : v + (r + 1) ≡ suc (v + r) = omega arith in
          L ∙ rw (drop_one 0 palette r h, e, q)

    pub looking_none : length palette ≤ r → 0 ≡ color_of β v palette
    unfolding color_of
    looking_none h = sym (L ∙ rw (drop_of_length-le palette h))

-- the loop over n cells, whose turn i writes the i-th
abbrev pub Coloring : Assignment → ℕ → ℕ → List ℕ → List ℕ → List ℕ → ℕ → Type 0
Coloring β v n palette out₀ out i = Emitting n (λ i. color_of β (v + i * length palette) palette ∷ []) out₀ 0 out i i

module _ (β : Assignment) (v n : ℕ) (palette : List ℕ) where
  pub coloring_first : (out : List ℕ) → n ≤ length out → Coloring β v n palette out out 0
  coloring_first out h = emit_first n _ out 0 (omega (arith, length_tab n (λ i. color_of β (v + i * length palette) palette), tab_each))
    where
      tab_each : length (tab n (λ i. color_of β (v + i * length palette) palette)) ≡ length (each n (λ i. color_of β (v + i * length palette) palette ∷ []))
      tab_each = unfold tab in refl

  module _ {out₀ out : List ℕ} {i : ℕ} (C : Coloring β v n palette out₀ out i) where
    pub coloring_room : i < n → i < length out
    coloring_room h = omega (arith, emit_room C h)

    pub coloring_next : (h : i < n) {c : ℕ} → c ≡ color_of β (v + i * length palette) palette → Coloring β v n palette out₀ (set out i c) (i + 1)
    coloring_next h e = emit_next C h (rw e (wrote_store out i _ (coloring_room h)))

    pub coloring_done : n ≤ i → Wrote (cell_colors β v n palette) out₀ 0 out n
    unfolding cell_colors tab
    coloring_done h = let e : i ≡ n = omega (arith, C.within) in rw e at (emit_done C h)
