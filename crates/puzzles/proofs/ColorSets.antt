-- The colour set K of a puzzle: whose colours are in it, and the solved cells.
use mathlib.Core.Path.{◌≡◌, refl, sym, ap, subst, ◌∙◌}
use mathlib.Core.Bool.{Bool, true, false, true≢false, false≢true}
use mathlib.Core.List.{List, [], ◌∷◌, foldl}
use mathlib.Core.Logic.{⊎_elim}
use Prim.Native.Nat.{ℕ, ◌+◌, ◌-◌, ◌*◌, ◌^◌, ◌<◌}
use native.Mathlib.Omega.{arith}
use native.Mathlib.Nat.{one-mul}
use native.Mathlib.Decide.{ℕ_discrete, dec_lt}
use lib.Bits.{bit_and, bit_or, and_le_l}
use lib.Count.{ones, ones_cat}
use lib.ListN.{length, get_or}
use lib.Pow.{pow_pos, pow-lt}
use borrow.Author.Tests.{eq-eqb, ne_eqb, eqb-true}
use Rattle.lists.proofs.Tests.{both}
use Rattle.bits.specs.Bits.{bit, with_bit, solved}
use Rattle.bits.proofs.SetBits.{bit_and_lem, bit_or_lem, bit_power, bit_some}
use Rattle.bits.proofs.LowestFirst.{powers_count, same_bits}
use Rattle.bits.proofs.Collecting.{Collects, Some, collects_bit, collects_all}
use Rattle.lines.specs.Clue.{Block}
use Rattle.lines.specs.Arrangement.{block_at}
use Rattle.puzzles.specs.Puzzle.{Puzzle, width, lines, clue_at}
use Rattle.puzzles.specs.Colors.{with_colors, with_lines, color_set, off_solved}
use Rattle.puzzles.specs.Checks.{colors}
use Rattle.puzzles.specs.Good.{Good}
use Rattle.puzzles.proofs.Lines.{clue_row}

abbrev pub color_of : Block → ℕ → Type 0
color_of b c = b.color ≡ c

abbrev pub of_blocks : List Block → ℕ → Type 0
of_blocks bs c = Some (record { size = 0; color = 0 }) color_of bs c

colors_folded : (mask : ℕ) (bs : List Block) → foldl (λ mask b. with_bit mask b.color) mask bs ≡ with_colors mask bs
unfolding with_colors
colors_folded mask [] = refl
colors_folded mask (b ∷ bs) = colors_folded (with_bit mask b.color) bs

blocks_collect : Collects with_colors of_blocks
blocks_collect = subst (λ f. Collects f of_blocks) (λ i mask bs. colors_folded mask bs i) (collects_all (collects_bit (λ b. b.color)) _)

lines_folded : (mask : ℕ) (ls : List (List Block)) → foldl with_colors mask ls ≡ with_lines mask ls
unfolding with_lines
lines_folded mask [] = refl
lines_folded mask (bs ∷ ls) = lines_folded (with_colors mask bs) ls

pub lines_collect : Collects with_lines (Some [] of_blocks)
lines_collect = subst (λ f. Collects f (Some [] of_blocks)) (λ i mask ls. lines_folded mask ls i) (collects_all blocks_collect [])

pub set_none : (rows : List (List Block)) → with_lines 0 rows ≡ 0 → color_set rows ≡ 2
unfolding color_set
set_none rows e = rw (eq-eqb (with_lines 0 rows) 0 e)

pub set_some : (rows : List (List Block)) → (with_lines 0 rows ≡ 0 → ⊥) → color_set rows ≡ with_lines 0 rows
unfolding color_set
set_some rows n = rw (ne_eqb (with_lines 0 rows) 0 n)

-- ---- the set is a word

pub set_within : (rows : List (List Block)) → color_set rows < 2 ^ 32
set_within rows = elim (ℕ_discrete (with_lines 0 rows) 0) [
  | yes z ↦ rw (set_none rows z) (omega arith)
  | no n ↦ rw (set_some rows n) (lines_collect.within 0 rows (omega arith))
]

-- a row block's colour is in it
pub rows_known : (rows : List (List Block)) (y b : ℕ) → y < length rows → b < length (get_or rows y []) → (block_at (get_or rows y []) b).color < 32
    → bit (color_set rows) (block_at (get_or rows y []) b).color ≡ true
rows_known rows y b h g small =
    let c = (block_at (get_or rows y []) b).color in
    let e : bit (with_lines 0 rows) c ≡ true = lines_collect.puts 0 rows c small (record { at = y; below = h; holds = record { at = b; below = g; holds = refl } }) in
    rw (set_some rows (λ z. omega (arith, bit_some (with_lines 0 rows) c e))) e

-- blank is not
pub blank_unknown : (rows : List (List Block)) → ((y b : ℕ) → y < length rows → b < length (get_or rows y []) → 0 < (block_at (get_or rows y []) b).color) → bit (color_set rows) 0 ≡ false
blank_unknown rows some = elim (ℕ_discrete (with_lines 0 rows) 0) [
  | yes z ↦ rw (set_none rows z) (bit_power 1 0)
  | no n ↦ rw (set_some rows n) (no_blank (bit (with_lines 0 rows) 0) refl)
]
  where
    no_blank : (b : Bool) → bit (with_lines 0 rows) 0 ≡ b → bit (with_lines 0 rows) 0 ≡ false
    no_blank true e = absurd (⊎_elim
        (λ z. omega (arith, bit_some 0 0 z))
        (λ s. omega (arith, some s.at s.holds.at s.below s.holds.below, s.holds.holds))
        (lines_collect.cases 0 rows 0 e))
    no_blank false e = e

-- ---- solved cells

ones_power : (k : ℕ) → ones (2 ^ k) ≡ 1
unfolding ones
ones_power k =
    let e : 2 ^ k ≡ 1 * 2 ^ k + 0 = omega (arith, one-mul (2 ^ k)) in
    ap ones e ∙ ones_cat k 1 0 (pow_pos k)

-- the bit of k meets neither blank's nor those of K
apart : (K k : ℕ) → 0 < k → k < 32 → bit K k ≡ false → bit_and (2 ^ k) (bit_or K 1) ≡ 0
apart K k h l n =
    same_bits (bit_and (2 ^ k) (bit_or K 1)) 0 (omega (arith, and_le_l (2 ^ k) (bit_or K 1), pow-lt l)) (omega arith)
    (λ j _ e.
    let b = both (bit (2 ^ k) j) (bit (bit_or K 1) j) (sym (bit_and_lem (2 ^ k) (bit_or K 1) j) ∙ e) in
    let q : j ≡ k = eqb-true j k (sym (bit_power k j) ∙ b.0) in
    let o : false ≡ true = sym (bit_or_lem K 1 k ∙ rw (n, bit_power 0 k, ne_eqb k 0 (λ z. omega arith))) ∙ ap (bit (bit_or K 1)) (sym q) ∙ b.1 in
    absurd (false≢true o))
    (λ j _ e. absurd (omega (arith, bit_some 0 j e)))

-- a cell that is solved with colour k and not refused has a colour of K
pub solved_in : (K k : ℕ) → 0 < k → k < 32 → off_solved K (2 ^ k) ≡ false → bit K k ≡ true
unfolding off_solved solved
solved_in K k h l e = known (bit K k) refl
  where
    known : (b : Bool) → bit K k ≡ b → bit K k ≡ true
    known true q = q
    known false q =
        absurd (true≢false (sym (rw (powers_count (2 ^ k) (pow-lt l), ones_power k, apart K k h l q)) ∙ e))

-- ---- of a good puzzle

pub record Known (z : Puzzle) : Type 0 where
  pub small : colors z < 2 ^ 32
  pub blank : bit (colors z) 0 ≡ false
  -- the colours of all blocks, and of solved cells
  pub blocks : (l b : ℕ) → l < lines z → b < length (clue_at z l) → bit (colors z) (block_at (clue_at z l) b).color ≡ true
  pub cells : (i k : ℕ) → i < length z.masks → 0 < k → k < 32 → get_or z.masks i 0 ≡ 2 ^ k → bit (colors z) k ≡ true

pub good_known : (z : Puzzle) → Good z → Known z
good_known z G = record {
  small = set_within z.rows;
  blank = blank_unknown z.rows (λ y b h g. rw (clue_row z y) at ((G.proper (width z + y) (omega arith)).colors b (rw (clue_row z y) g)));
  blocks = λ l b h g. elim (dec_lt l (width z)) [
    | yes k ↦ G.columns_known l b k g
    | no k ↦
        let y = l - width z in
        let e : clue_at z l ≡ get_or z.rows y [] = ap (clue_at z) (omega arith) ∙ clue_row z y in
        let m : (block_at (clue_at z l) b).color < 32 = omega (arith, G.colors_most l b h g) in
        rw e (rows_known z.rows y b (omega arith) (rw e at g) (rw e at m))
  ];
  cells = λ i k h p s e. solved_in (colors z) k p s (rw e at (G.solved_known i h));
}
