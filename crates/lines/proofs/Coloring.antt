-- The blocks that reading a line finds: their words, how many, the space that they need, and their colours, which are those of the cells.
use mathlib.Core.Path.{◌≡◌, refl, sym, ap, ◌∙◌}
use mathlib.Core.List.{List}
use Prim.Native.Nat.{ℕ, zero, suc, ◌-◌, ◌*◌, ◌≤◌, ◌<◌}
use native.Mathlib.Omega.{arith}
use native.Mathlib.Nat.{le_refl}
use native.Mathlib.Decide.{dec_lt}
use lib.ListN.{length, get_or, length-map}
use Rattle.lines.specs.Clue.{Block, Run, gap, words, min_space}
use Rattle.lines.specs.Line.{runs}
use Rattle.lines.specs.Calls.{line_words}
use Rattle.lines.specs.Arrangement.{block_at, at}
use Rattle.lines.proofs.Packing.{base_gap, block, block_at_lem}
use Rattle.lines.proofs.ClueWords.{words_length}
use Rattle.lines.proofs.Laying.{Laid, painted, paints}
use Rattle.lines.proofs.Reading.{Shown, shown, base_spaced}
use Rattle.lines.proofs.Arranging.{arranged}

-- ---- their words

pub line_words_lem : (line : List ℕ) → line_words line ≡ words (runs line)
unfolding line_words
line_words_lem line = refl

-- two for each block
pub line_words_length : (line : List ℕ) → length (line_words line) ≡ 2 * length (runs line)
line_words_length line = ap length (line_words_lem line) ∙ words_length (runs line)

-- ---- how many

laid_low : {g : ℕ → ℕ → ℕ} {n : ℕ} (R : List Run) → Laid g n R → (b : ℕ) → b < length R → b ≤ (at R b).start
laid_low R L zero h = omega arith
laid_low R L (suc b) h = omega (arith, laid_low R L b (omega arith), L.apart b (suc b) (omega arith) h, L.sized b (omega arith))

laid_few : {g : ℕ → ℕ → ℕ} {n : ℕ} (R : List Run) → Laid g n R → Dec (0 < length R) → length R ≤ n
laid_few R L (no h) = omega arith
laid_few R L (yes h) =
    let b = length R - 1 in
    omega (arith, laid_low R L b (omega arith), L.within b (omega arith), L.sized b (omega arith))

module _ (line : List ℕ) where
  S : Shown gap line 0 (runs line)
  S = shown base_gap line (base_spaced line)

  found_length : length S.found ≡ length (runs line)
  found_length = sym (length-map S.found block) ∙ ap length S.read

  found_color : (b : ℕ) → (at S.found b).color ≡ (block_at (runs line) b).color
  found_color b = ap (λ x. x.color) (sym (block_at_lem S.found b) ∙ ap (λ bs. block_at bs b) S.read)

  -- no more blocks than cells
  pub runs_few : length (runs line) ≤ length line
  runs_few = omega (arith, found_length, laid_few S.found S.laid (dec_lt 0 (length S.found)))

  -- the line has room for its clue
  pub runs_fit : min_space gap (runs line) ≤ length line
  runs_fit = (arranged base_gap line (base_spaced line)).1.fits

-- ---- their colours

-- some block has the colour c
pub record Named (bs : List Block) (c : ℕ) : Type 0 where
  pub block_no : ℕ
  pub within : block_no < length bs
  pub color_is : (block_at bs block_no).color ≡ c

-- some cell has it
pub record Seen (line : List ℕ) (c : ℕ) : Type 0 where
  pub cell : ℕ
  pub within : cell < length line
  pub color_is : get_or line cell 0 ≡ c

module _ (line : List ℕ) {c : ℕ} where
  -- a colour that a block has is in the line
  pub named_seen : Named (runs line) c → Seen line c
  named_seen N =
      let b = N.block_no in
      let R = (S line).found in
      let l : b < length R = omega (arith, found_length line, N.within) in
      let t = (at R b).start in
      let s = (S line).laid.sized b l in
      record {
        cell = t;
        within = omega (arith, (S line).laid.within b l);
        color_is = sym ((S line).cells t (omega arith)) ∙ paints R (S line).laid b t l (le_refl t) (omega arith) ∙ found_color line b ∙ N.color_is;
      }

  -- and a colour that is in the line, a block has
  pub seen_named : 0 < c → Seen line c → Named (runs line) c
  seen_named h C =
      let t = C.cell in
      let e = (S line).cells t (omega arith) ∙ C.color_is in
      let p = painted (S line).found t (omega arith) in
      record {
        block_no = p.by;
        within = omega (arith, found_length line, p.below);
        color_is = sym (found_color line p.by) ∙ p.color_is ∙ e;
      }
