-- The front of a buffer: `&out[..n]`, where n elements were written, and `f(&mut out[..n])`, where it was lent.
use mathlib.Core.Path.{◌≡◌, sym, ap, ◌∙◌}
use mathlib.Core.List.{List, ◌++◌, append_assoc}
use Prim.Native.Nat.{ℕ, ◌≤◌}
use native.Mathlib.Omega.{arith}
use native.Mathlib.Nat.{zero-add}
use lib.ListN.{length, take, drop, take-append-drop}
use lib.Seq.{length-take-le, drop-append-le}
use Rattle.lists.specs.Wrote.{Wrote}
use Rattle.lists.proofs.Writing.{wrote_there}

-- what was written from the front on is the front
module _ {A : Type 0} {ws out out₁ : List A} {n : ℕ} (w : Wrote ws out 0 out₁ n) where
  pub front_size : n ≡ length ws
  front_size = w.next_is ∙ zero-add (length ws)

  pub front_is : take n out₁ ≡ ws
  front_is = rw front_size (wrote_there (omega arith) w)

-- what was written into a front is written into the whole
pub wrote_front : {A : Type 0} {ws out front : List A} {n used : ℕ} → n ≤ length out → used ≤ n → Wrote ws (take n out) 0 front used → Wrote ws out 0 (front ++ drop n out) used
wrote_front {A} {ws} {out} {front} {n} {used} h l w =
    record {
      next_is = w.next_is;
      left = ap (λ (f : List A). f ++ drop n out) w.left
          ∙ append_assoc ws (drop used (take n out)) (drop n out)
          ∙ ap (λ (r : List A). ws ++ r) (sym (drop-append-le used (take n out) (drop n out) (omega (arith, length-take-le n out h))) ∙ ap (drop used) (take-append-drop n out));
    }
