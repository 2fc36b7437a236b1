-- Sections written one after another, each group into the rest of the buffer.
use mathlib.Core.Path.{◌≡◌, refl}
use mathlib.Core.List.{List, [], ◌∷◌, ◌++◌, append-nil, flat_map}
use Prim.Native.Nat.{ℕ, ◌+◌, ◌-◌, ◌≤◌}
use native.Mathlib.Omega.{arith}
use lib.IntN.{ℤ}
use lib.ListN.{length, take, drop, length-drop}
use borrow.Rule.Slice.PartMut.{put_mid}
use Rattle.lists.proofs.Eaches.{flat_append}
use Rattle.lists.specs.Wrote.{Wrote}
use Rattle.lists.proofs.Writing.{Filling, fill_first, fill_room, fill_next, fill_kept, fill_done, wrote_tail, tail_is}
use Rattle.sections.specs.Sections.{Clause, section_words, sections_words}
use Rattle.puzzles.specs.Puzzle.{Puzzle}
use Rattle.counts.specs.Families.{families, buffer}
use Rattle.clauses.specs.Groups.{line_sections, cell_sections}

sections_one : (s : List Clause) → sections_words (s ∷ []) ≡ section_words s
unfolding flat_map
sections_one s = append-nil (section_words s)

-- all sections are written from the front of the buffer on; `rest` is still to come
pub record Writing (all rest : List (List Clause)) (out₀ out : List ℤ) (at : ℕ) : Type 0 where
  pub fill : Filling (sections_words all) out₀ 0 (sections_words rest) out at

pub writing_first : (all : List (List Clause)) (out : List ℤ) → length (sections_words all) ≤ length out → Writing all all out out 0
writing_first all out h = record { fill = fill_first (sections_words all) out 0 (omega arith) refl }

-- the next group
module _ {all : List (List Clause)} (g rest : List (List Clause)) {out₀ out : List ℤ} {at : ℕ} (W : Writing all (g ++ rest) out₀ out at) where
  pub writing_within : at + length (sections_words g) ≤ length out
  writing_within = fill_room W.fill (sections_words g) (sections_words rest) (flat_append section_words g rest)

  -- the tail has room for it
  pub writing_room : length (sections_words g) ≤ length (take (length out - at) (drop at out))
  writing_room = rw (tail_is out at) (omega (arith, writing_within, length-drop at out))

  pub writing_front : at ≡ 0 → length (sections_words g) ≤ length out
  writing_front e = omega (arith, writing_within)

  pub writing_next : {tail : List ℤ} {used : ℕ} → Wrote (sections_words g) (take (length out - at) (drop at out)) 0 tail used
      → Writing all rest out₀ (put_mid at (length out - at) out tail) (at + used)
  writing_next w = record { fill = fill_next W.fill (sections_words g) (sections_words rest) (flat_append section_words g rest) (wrote_tail w) }

  -- the first is written into the buffer itself
  pub writing_whole : {out₁ : List ℤ} {at₁ : ℕ} → Wrote (sections_words g) out at out₁ at₁ → Writing all rest out₀ out₁ at₁
  writing_whole w = record { fill = fill_next W.fill (sections_words g) (sections_words rest) (flat_append section_words g rest) w }

-- a group of one section
module _ (s : List Clause) where
  pub one_wrote : {out out₁ : List ℤ} {at at₁ : ℕ} → Wrote (section_words s) out at out₁ at₁ → Wrote (sections_words (s ∷ [])) out at out₁ at₁
  one_wrote w = rw (sections_one s) w

  pub one_room : {n : ℕ} → length (sections_words (s ∷ [])) ≤ n → length (section_words s) ≤ n
  one_room h = rw (sections_one s) at h

module _ {all rest : List (List Clause)} {out₀ out : List ℤ} {at : ℕ} (W : Writing all rest out₀ out at) where
  pub writing_kept : length out ≡ length out₀
  writing_kept = fill_kept W.fill

  pub writing_place : at ≤ length out
  writing_place = omega (arith, fill_room W.fill [] (sections_words rest) refl)

pub writing_done : {all : List (List Clause)} {out₀ out : List ℤ} {at : ℕ} → Writing all [] out₀ out at → Wrote (sections_words all) out₀ 0 out at
unfolding flat_map
writing_done W = fill_done W.fill refl

pub all_sections : (z : Puzzle) → buffer z ≡ sections_words (line_sections z ++ cell_sections z)
unfolding families
all_sections z = refl
