-- Family 9 follows from 5 and 7: two colours in a cell would be two blocks of its column that cover it.
use mathlib.Core.Path.{◌≡◌, sym, ◌∙◌}
use mathlib.Core.Bool.{true}
use Prim.Native.Nat.{ℕ}
use native.Mathlib.Omega.{arith}
use native.Mathlib.Decide.{dec_lt}
use Rattle.truth.specs.Truth.{Assignment}
use Rattle.lines.specs.Clue.{gap}
use Rattle.lines.specs.Arrangement.{clash}
use Rattle.lines.proofs.Moving.{covers_clash}
use Rattle.numbering.specs.Variables.{Line, line_at, placed_at, variable, hue}
use Rattle.pictures.specs.Meaning.{NoConflict, Covers, NineFollows}
use Rattle.pictures.proofs.ColorsOfK.{hue_once}
use Rattle.pictures.proofs.EachFamily.{meanings}

-- two blocks of different colours that cover one cell are in conflict
overlap : (L : Line) {c d t a i b j : ℕ} → (c ≡ d → ⊥) → Covers L c t a i → Covers L d t b j → clash gap (placed_at L a i) (placed_at L b j) ≡ true
overlap L {t = t} {a = a} {i = i} {b = b} {j = j} other A B = covers_clash (placed_at L a i) (placed_at L b j) t (λ e. other (sym A.color_is ∙ e ∙ B.color_is)) A.covered B.covered

-- so no two of them are both there
module _ (β : Assignment) (L : Line) (N : NoConflict β L) {c d t a i b j : ℕ} (other : c ≡ d → ⊥) (A : Covers L c t a i) (B : Covers L d t b j) where
  apart : β (variable L a i) ≡ true → β (variable L b j) ≡ true → ⊥
  apart e q = elim (dec_lt a b) [
    | yes h ↦ N a b i j h B.block_in A.position_in B.position_in (overlap L other A B) e q
    | no h ↦ elim (dec_lt b a) [
      | yes k ↦ N b a j i k A.block_in B.position_in A.position_in (overlap L (λ s. other (sym s)) B A) q e
      | no k ↦
          let s : a ≡ b = omega arith in
          other (sym A.color_is ∙ rw s B.color_is)
    ]
  ]

pub nine_follows : NineFollows
nine_follows z β five seven =
    let M = meanings z β in
    M.nine.1 (λ x y r s h l m n e q.
    let A = (M.seven.0 seven x y r h l (omega arith)).0 e in
    let B = (M.seven.0 seven x y s h l n).0 q in
    let other : hue z r ≡ hue z s → ⊥ = λ w. absurd (omega (arith, hue_once z r s (omega arith) n w)) in
    apart β (line_at z x) (M.five.0 five x h) other A.2 B.2 A.3 B.3)
