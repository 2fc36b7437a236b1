-- The positions that cover a cell: at most 64 of them, all of them variables.
use mathlib.Core.Path.{◌≡◌, refl, ap, ◌∙◌}
use mathlib.Core.Bool.{Bool, true, false}
use mathlib.Core.List.{List, map, map-append}
use Prim.Native.Nat.{ℕ, zero, suc, ◌≤◌, ◌<◌}
use native.Mathlib.Omega.{arith}
use lib.Dec.{eqb}
use lib.ListN.{length}
use Rattle.lists.specs.Each.{each, when, Every}
use Rattle.lists.proofs.Everys.{every_one, every_each, every_when}
use Rattle.lists.proofs.Sums.{sum_below, length_each}
use Rattle.literals.specs.Literals.{IsVariable}
use Rattle.lines.specs.Arrangement.{at, covers}
use Rattle.numbering.specs.Variables.{Line, many, placed_at, first_of, variable}
use Rattle.numbering.specs.Tables.{Sound}
use Rattle.numbering.proofs.SoundLines.{sound_sizes, sound_least, sound_most}
use Rattle.cells.specs.Cells.{covering}
use Rattle.cells.specs.Found.{covering_block, AreVariables}
use Rattle.cells.proofs.BlockPositions.{block_most}

-- ---- what holds of each of them

pub covering_every : (P : ℕ → Type 0) (L : Line) (c t : ℕ) → ((b i : ℕ) → b < many L → i < L.positions → P (variable L b i)) → Every 0 P (covering L c t)
unfolding covering
covering_every P L c t h =
    every_each 0 P (many L) _ (λ b k. every_when 0 P (eqb (at L.runs b).color c) _
    (every_each 0 P L.positions _ (λ i l. every_when 0 P (covers (placed_at L b i) t) _ (every_one 0 P (variable L b i) (h b i k l)))))

-- ---- what is made of each of them

module _ {A : Type 0} (f : ℕ → A) where
  pub map_turns : (n : ℕ) (g : ℕ → List ℕ) → map f (each n g) ≡ each n (λ k. map f (g k))
  unfolding each
  map_turns zero g = refl
  map_turns (suc n) g = map-append f (each n g) (g n) ∙ rw (map_turns n g)

  pub map_when : (b : Bool) (l : List ℕ) → map f (when b l) ≡ when b (map f l)
  map_when true l = refl
  map_when false l = refl

-- ---- block by block

abbrev pub of_block : Line → ℕ → ℕ → ℕ → List ℕ
of_block L c t b = when (eqb (at L.runs b).color c) (covering_block (first_of L b) L.positions (at L.runs b) t)

pub covering_blocks : (L : Line) (c t : ℕ) → covering L c t ≡ each (many L) (of_block L c t)
unfolding covering covering_block
covering_blocks L c t = refl

when_most : {A : Type 0} (b : Bool) (l : List A) (n : ℕ) → length l ≤ n → length (when b l) ≤ n
when_most true l n h = h
when_most false l n h = omega arith

module _ {L : Line} (S : Sound L) (c t : ℕ) where
  pub covering_most : length (covering L c t) ≤ 64
  covering_most =
      omega (arith, ap length (covering_blocks L c t), length_each (many L) (of_block L c t), sum_below (many L) (λ b. length (of_block L c t b)) (λ b. (at L.runs b).size) few, sound_sizes S)
    where
      few : (b : ℕ) → b < many L → length (of_block L c t b) ≤ (at L.runs b).size
      few b h = when_most (eqb (at L.runs b).color c) _ _ (block_most (first_of L b) (at L.runs b) t L.positions)

  pub covering_variables : AreVariables (covering L c t)
  covering_variables = covering_every IsVariable L c t (λ b i h l. record { least = omega (arith, sound_least S b h); most = omega (arith, sound_most S b h) })
