-- The colour set, as the loops gather it and look into it.
use mathlib.Core.Path.{◌≡◌, sym, ap, ◌∙◌}
use mathlib.Core.Bool.{true, false}
use mathlib.Core.List.{List, []}
use Prim.Native.Nat.{ℕ, ◌+◌, ◌-◌, ◌≤◌, ◌<◌}
use native.Mathlib.Omega.{arith}
use lib.Bits.{bit_and, bit_or}
use lib.Dec.{eqb}
use lib.ListN.{drop, get_or, drop_of_length-le}
use borrow.Author.Tests.{eq-eqb, ne_eqb}
use Rattle.lists.proofs.Dropping.{drop_one}
use Rattle.bits.specs.Bits.{bit, with_bit, solved}
use Rattle.lines.specs.Clue.{words, blocks}
use Rattle.lines.proofs.ClueWords.{NextBlock, blocks_words}
use Rattle.puzzles.specs.Puzzle.{Puzzle, width, height, clue_at}
use Rattle.puzzles.specs.Colors.{with_colors, with_lines, color_set, known, off_solved}
use Rattle.puzzles.proofs.Lines.{clue_column, clue_row}

-- ---- the blocks of a clue, of which a loop has passed b

pub record Gathering (mask : ℕ) (clue : List ℕ) (all b : ℕ) : Type 0 where
  pub same : with_colors mask (blocks clue) ≡ with_colors all (drop b (blocks clue))

module _ {mask all b : ℕ} {clue : List ℕ} (G : Gathering mask clue all b) where
  pub gathering_next : {size color more : ℕ} → NextBlock (blocks clue) b size color → more ≡ with_bit all color → Gathering mask clue more (b + 1)
  unfolding with_colors
  gathering_next h e = record { same = G.same ∙ rw (h, e) }

  pub gathering_done : drop b (blocks clue) ≡ [] → all ≡ with_colors mask (blocks clue)
  unfolding with_colors
  gathering_done h = sym (G.same ∙ rw h)

pub record Knowing (K : ℕ) (clue : List ℕ) (b : ℕ) : Type 0 where
  pub same : known K (blocks clue) ≡ known K (drop b (blocks clue))

module _ {K b : ℕ} {clue : List ℕ} (N : Knowing K clue b) where
  module _ {size color : ℕ} (h : NextBlock (blocks clue) b size color) where
    pub knowing_not : bit K color ≡ false → false ≡ known K (blocks clue)
    unfolding known
    knowing_not e = sym (N.same ∙ rw (h, e))

    pub knowing_next : bit K color ≡ true → Knowing K clue (b + 1)
    unfolding known
    knowing_next e = record { same = N.same ∙ rw (h, e) }

  pub knowing_done : drop b (blocks clue) ≡ [] → true ≡ known K (blocks clue)
  unfolding known
  knowing_done h = sym (N.same ∙ rw h)

-- ---- the rows

pub record Joining (z : Puzzle) (all l : ℕ) : Type 0 where
  pub low : width z ≤ l
  pub high : l ≤ width z + height z
  pub same : with_lines 0 z.rows ≡ with_lines all (drop (l - width z) z.rows)

pub joining_first : (z : Puzzle) → Joining z 0 (width z)
joining_first z =
    let e : width z - width z ≡ 0 = omega arith in
    record { low = omega arith; high = omega arith; same = rw e }

module _ {z : Puzzle} {all l : ℕ} (J : Joining z all l) where
  pub joining_next : l < width z + height z → {more : ℕ} {clue : List ℕ} → more ≡ with_colors all (blocks clue) → clue ≡ words (clue_at z l) → Joining z more (l + 1)
  unfolding with_lines
  joining_next h {more} e c =
      let i = l - width z in
      let q : l ≡ width z + i = omega (arith, J.low) in
      let s : l + 1 - width z ≡ i + 1 = omega (arith, J.low) in
      let m : more ≡ with_colors all (get_or z.rows i []) = e ∙ rw (c, blocks_words (clue_at z l)) (ap (with_colors all) (ap (clue_at z) q ∙ clue_row z i)) in
      record { low = omega (arith, J.low); high = omega arith; same = J.same ∙ rw (s, m, drop_one [] z.rows i (omega (arith, J.low))) }

  joined : width z + height z ≤ l → all ≡ with_lines 0 z.rows
  unfolding with_lines
  joined h = sym (J.same ∙ rw (drop_of_length-le z.rows {i = l - width z} (omega arith)))

  pub joined_none : width z + height z ≤ l → all ≡ 0 → 2 ≡ color_set z.rows
  unfolding color_set
  joined_none h e = rw (← joined h, eq-eqb _ _ e)

  pub joined_some : width z + height z ≤ l → (all ≡ 0 → ⊥) → all ≡ color_set z.rows
  unfolding color_set
  joined_some h n = rw (← joined h, ne_eqb _ _ n)

-- ---- solved cells

module _ (K mask : ℕ) where
  pub unsolved_not : solved mask ≡ false → false ≡ off_solved K mask
  unfolding off_solved
  unsolved_not n = rw n

  pub solved_off : solved mask ≡ true → eqb (bit_and mask (bit_or K 1)) 0 ≡ off_solved K mask
  unfolding off_solved
  solved_off e = rw e

pub known_found : (K : ℕ) (z : Puzzle) (l : ℕ) → l < width z → {clue : List ℕ} → clue ≡ words (clue_at z l) → known K (blocks clue) ≡ known K (get_or z.columns l [])
known_found K z l h e = rw (e, blocks_words (clue_at z l), clue_column z l h)
