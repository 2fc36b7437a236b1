-- One line of a puzzle: the families say of it, and of the variables of its cells, that the cells read as its clue.
use mathlib.Core.Path.{◌≡◌, refl, sym, ap, ◌∙◌}
use mathlib.Core.Logic.{inl, inr}
use mathlib.Core.List.{List}
use Prim.Native.Nat.{ℕ, ◌<◌}
use native.Mathlib.Omega.{arith}
use native.Mathlib.Decide.{dec_lt}
use lib.Dec.{eqb}
use lib.ListN.{length, get_or}
use lib.Seq.{ext_get_or}
use Rattle.lines.specs.Clue.{gap}
use Rattle.lines.specs.Line.{runs}
use Rattle.lines.specs.Arrangement.{Arranged, render}
use Rattle.lines.proofs.Packing.{base_gap, packed_length, packed_color}
use Rattle.lines.proofs.Rendering.{render_length, cell_covered}
use Rattle.lines.proofs.Reading.{base_spaced}
use Rattle.lines.proofs.Arranging.{read_back, arranged, arranged_once}
use Rattle.puzzles.specs.Puzzle.{Puzzle, lines, clue_at, length_at}
use Rattle.puzzles.specs.Good.{Good}
use Rattle.puzzles.proofs.ColorSets.{good_known}
use Rattle.puzzles.specs.Firsts.{first_at}
use Rattle.numbering.specs.Variables.{line_at, many, variable, hues, hue}
use Rattle.truth.specs.Truth.{Assignment}
use Rattle.pictures.specs.Meaning.{SomePosition, OnePosition, NoConflict, IsCovered, IsColored}
use Rattle.pictures.specs.Pictures.{IsColor}
use Rattle.pictures.proofs.ColorsOfK.{hue_known, same_color}
use Rattle.pictures.proofs.LineArranged.{Stand, stands_arranged, arranged_some, arranged_one, arranged_apart, cell_shown, shown_covered, shown_colored}

-- what families 1 to 8 say of line l; v t r is the variable of cell t's r-th colour
pub record LineSaid (z : Puzzle) (l : ℕ) (β : Assignment) (v : ℕ → ℕ → ℕ) : Type 0 where
  pub some : SomePosition β (line_at z l)
  pub one : OnePosition β (line_at z l)
  pub apart : NoConflict β (line_at z l)
  pub covered : (t r : ℕ) → t < length_at z l → r < hues z → IsCovered β (line_at z l) (hue z r) t (v t r)
  pub colored : (t r : ℕ) → t < length_at z l → r < hues z → IsColored β (line_at z l) (hue z r) t (v t r)

-- the cells of the line, with their variables
pub record LineCells (z : Puzzle) (l : ℕ) (β : Assignment) (v : ℕ → ℕ → ℕ) (cells : List ℕ) : Type 0 where
  pub long : length cells ≡ length_at z l
  pub known : (t : ℕ) → t < length_at z l → IsColor z (get_or cells t 0)
  pub told : (t r : ℕ) → t < length_at z l → r < hues z → β (v t r) ≡ eqb (get_or cells t 0) (hue z r)

-- the offsets of the blocks that a line shows
pub offsets : List ℕ → ℕ → ℕ
offsets cells = (arranged base_gap cells (base_spaced cells)).0

module _ (z : Puzzle) (G : Good z) (l : ℕ) (h : l < lines z) where
  -- the cells of an arrangement have colours of K
  render_known : {o : ℕ → ℕ} → Arranged gap (length_at z l) (clue_at z l) o → (t : ℕ) → IsColor z (get_or (render gap (length_at z l) (clue_at z l) o) t 0)
  render_known {o} A t =
      let c = get_or (render gap (length_at z l) (clue_at z l) o) t 0 in
      elim (dec_lt 0 c) [
        | yes k ↦
            let (b, i, e, _) = cell_covered base_gap (G.proper l h) A t c k refl in
            inr (rw (← e, packed_color gap (clue_at z l) b) ((good_known z G).blocks l b h i))
        | no k ↦ inl (omega arith)
      ]

  module _ {β : Assignment} {v : ℕ → ℕ → ℕ} {cells : List ℕ} where
    -- the positions are those of an arrangement that shows the cells
    line_arranged : LineSaid z l β v → LineCells z l β v cells
        → (o : ℕ → ℕ) × Arranged gap (length_at z l) (clue_at z l) o
        × Stand β (line_at z l) o × (render gap (length_at z l) (clue_at z l) o ≡ cells)
    unfolding line_at
    line_arranged S C =
        let (o, A, T) = stands_arranged base_gap (G.proper l h) (G.fits l h) (first_at z l) β S.some S.one S.apart in
        let R = render gap (length_at z l) (clue_at z l) o in
        let n = render_length gap (length_at z l) (clue_at z l) o in
        let same : (t : ℕ) → t < length R → get_or R t 0 ≡ get_or cells t 0 = λ t k.
        let i : t < length_at z l = omega arith in
        same_color z _ _ (render_known A t) (C.known t i)
        (λ r j. sym (cell_shown base_gap (G.proper l h) (G.fits l h) (first_at z l) β A T (hue_known z r j).0 (S.covered t r i j) (S.colored t r i j)) ∙ C.told t r i j) in
        (o, A, T, ext_get_or 0 R cells (n ∙ sym C.long) same)

    -- so they read as the clue
    pub said_reads : LineSaid z l β v → LineCells z l β v cells → runs cells ≡ clue_at z l
    said_reads S C =
        let (o, A, T, e) = line_arranged S C in
        ap runs (sym e) ∙ read_back base_gap (G.proper l h) A

    -- and the other way round, with the offsets that the cells show
    pub reads_said : runs cells ≡ clue_at z l → LineCells z l β v cells → Stand β (line_at z l) (offsets cells) → LineSaid z l β v
    unfolding line_at offsets
    reads_said e C T =
        let (o, A₀, s₀) = arranged base_gap cells (base_spaced cells) in
        let A : Arranged gap (length_at z l) (clue_at z l) (offsets cells) = rw (← C.long, ← e) A₀ in
        let s : render gap (length_at z l) (clue_at z l) (offsets cells) ≡ cells = rw (← C.long, ← e) s₀ in
        let shows : (t r : ℕ) → t < length_at z l → r < hues z → β (v t r) ≡ eqb (get_or (render gap (length_at z l) (clue_at z l) (offsets cells)) t 0) (hue z r) = λ t r i j.
        C.told t r i j ∙ ap (λ c. eqb (get_or c t 0) (hue z r)) (sym s) in
        let p = G.proper l h in
        let f = G.fits l h in record {
          some = arranged_some base_gap p f (first_at z l) β A T;
          one = arranged_one base_gap p f (first_at z l) β A T;
          apart = arranged_apart base_gap p f (first_at z l) β A T;
          covered = λ t r i j. shown_covered base_gap p f (first_at z l) β A T (hue_known z r j).0 (shows t r i j);
          colored = λ t r i j. shown_colored base_gap p f (first_at z l) β A T (hue_known z r j).0 (shows t r i j);
        }

  -- two assignments with the same cells have the same positions
  pub said_once : {β γ : Assignment} {v : ℕ → ℕ → ℕ} {cells : List ℕ} → LineSaid z l β v → LineCells z l β v cells → LineSaid z l γ v → LineCells z l γ v cells
      → (b i : ℕ) → b < length (clue_at z l) → i < (line_at z l).positions → β (variable (line_at z l) b i) ≡ γ (variable (line_at z l) b i)
  unfolding line_at
  said_once S C S' C' b i k j =
      let (o, A, T, e) = line_arranged S C in
      let (o', A', T', e') = line_arranged S' C' in
      let m : b < many (line_at z l) = omega (arith, packed_length gap (clue_at z l)) in
      T b i m j ∙ ap (eqb i) (arranged_once base_gap (G.proper l h) A A' (e ∙ sym e') b k) ∙ sym (T' b i m j)
