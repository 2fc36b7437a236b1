-- Condition 3.
use mathlib.Core.Path.{◌≡◌, sym, subst, ◌∙◌}
use mathlib.Core.Bool.{false}
use mathlib.Core.Logic.Iff
use mathlib.Core.Logic.{◌↔◌}
use mathlib.Core.List.{List, ◌++◌, map}
use Prim.Native.Nat.{ℕ, suc, ◌-◌, ◌≤◌, ◌<◌}
use native.Mathlib.Omega.{arith}
use native.Mathlib.Decide.{ℕ_discrete}
use lib.Dec.{eqb}
use lib.ListN.{length, get_or}
use lib.Seq.{ext_get_or}
use borrow.Author.Tests.{eq-eqb, eqb-true}
use Rattle.puzzles.specs.Puzzle.{Puzzle}
use Rattle.puzzles.specs.Checks.{puzzle}
use Rattle.puzzles.specs.Good.{Good}
use Rattle.puzzles.proofs.Accepting.{accepted_is}
use Rattle.numbering.specs.Variables.{variables}
use Rattle.counts.specs.Families.{clauses}
use Rattle.truth.specs.Truth.{Assignment, value, Satisfies}
use Rattle.pictures.specs.Pictures.{Grid, Picture, Solves, Extends, Model, shown, blocking, member, PictureIs, Unique, Blocking, OneToOne, Condition3}
use Rattle.pictures.proofs.TrueClauses.{Holds, append_means, map_means}
use Rattle.pictures.proofs.EachFamily.{Said, solved_said}
use Rattle.pictures.proofs.GridModel.{model, is_model, model_extends}
use Rattle.pictures.proofs.ShownGrid.{shown_is_grid, shown_extends, extends_shown}
use Rattle.pictures.proofs.Pictured.{said_picture, picture_said}
use Rattle.pictures.proofs.Determined.{same_everywhere}
use Rattle.pictures.proofs.Blocked.{blocking_differs, differs_blocking}
use Rattle.pictures.proofs.NoOther.{no_other, exactly_one}

-- bytes of 0 and 1 are those of their truth
same_byte : (a b : ℕ) → a ≤ 1 → b ≤ 1 → eqb a 1 ≡ eqb b 1 → a ≡ b
same_byte a b h k e = elim (ℕ_discrete a 1) [
  | yes q ↦ q ∙ sym (eqb-true b 1 (sym e ∙ eq-eqb a 1 q))
  | no q ↦ elim (ℕ_discrete b 1) [
    | yes p ↦ absurd (q (eqb-true a 1 (e ∙ eq-eqb b 1 p)))
    | no p ↦ omega arith
  ]
]

-- models that agree at every variable are equal
same_model : (z : Puzzle) (m n : List ℕ) → Model z m → Model z n → ((v : ℕ) → 0 < v → v ≤ variables z → value m v ≡ value n v) → m ≡ n
same_model z m n M N same =
    ext_get_or 0 m n (M.size ∙ sym N.size) (λ i h.
    let e : suc i - 1 ≡ i = omega arith in
    let t : eqb (get_or m i 0) 1 ≡ eqb (get_or n i 0) 1 = rw e at (same (suc i) (omega arith) (omega (arith, M.size))) in
    same_byte _ _ (M.bytes i h) (N.bytes i (omega (arith, M.size, N.size))) t)

module _ (z : Puzzle) (G : Good z) where
  said : {β : Assignment} → Solves z β → Said z β
  said {β} s = (solved_said z β).0 s

  -- ---- Picture

  -- the model of a picture
  model_solves : {grid : List ℕ} → Grid z grid → Picture z grid → Solves z (value (model z grid))
  model_solves {grid} Q P = (solved_said z (value (model z grid))).1 (picture_said z G Q P)

  picture_is : PictureIs z
  picture_is grid Q = (λ s. said_picture z G Q (said s.1) s.2, λ P. (value (model z grid), model_solves Q P, model_extends z grid))

  -- ---- Unique

  unique : Unique z
  unique grid β γ s t e f = same_everywhere z G (said s) (said t) (λ x y r h k l. e x y r h k l ∙ sym (f x y r h k l))

  -- ---- Blocking

  -- it shows the grid that it extends
  shows : (β : Assignment) → Solves z β → {grid : List ℕ} → Grid z grid → Extends z grid β → shown z β ≡ grid
  shows β s {grid} Q e = extends_shown z β (said s).one_color grid Q e

  blocked : Blocking z
  blocked L solve grid Q = (
    λ s.
        let (b, cs) = (both s.0).0 s.1 in
        ((picture_is grid Q).0 (s.0, b, s.2), λ i h q. blocking_differs z G (said b) (said (solve i h)) (cs i h) (q ∙ sym (shows s.0 b Q s.2))),
    λ P.
        let b = model_solves Q P.0 in
        let e = model_extends z grid in
        let β = value (model z grid) in
        (β, (both β).1 (b, λ i h. differs_blocking z G (said b) (said (solve i h)) (λ q. P.1 i h (q ∙ shows β b Q e))), e),
  )
    where
      both : (β : Assignment) → Satisfies β (clauses z ++ map (blocking z) L) ↔ (Solves z β × ((i : ℕ) → i < length L → Holds β (blocking z (member L i))))
      both β = append_means β (clauses z) (map (blocking z) L) Iff.rfl (map_means β (blocking z) L (λ v. false) (λ i h. Iff.rfl))

  -- ---- Count

  -- and extends the grid that it shows
  extends : (β : Assignment) → Solves z β → Extends z (shown z β) β
  extends β s = shown_extends z β (said s).one_color

  one_to_one : OneToOne z
  one_to_one = record {
    shows = λ β s. (shown_is_grid z β, said_picture z G (shown_is_grid z β) (said s) (extends β s), extends β s);
    once = λ m n M N s t e.
        same_model z m n M N
        (unique (shown z (value n)) (value m) (value n) s t (subst (λ g. Extends z g (value m)) e (extends (value m) s)) (extends (value n) t));
    all = λ grid Q P. (model z grid, is_model z grid, model_solves Q P, shows (value (model z grid)) (model_solves Q P) Q (model_extends z grid));
  }

-- of every puzzle whose words are accepted
pub condition_3 : Condition3
condition_3 ws e =
    let z = puzzle ws in
    let G = (accepted_is 0 ws e).good in
    record {
      picture = picture_is z G;
      unique = unique z G;
      blocked = blocked z G;
      count = one_to_one z G;
      no_other = no_other z (blocked z G);
      exactly_one = exactly_one z (blocked z G) (one_to_one z G);
    }
