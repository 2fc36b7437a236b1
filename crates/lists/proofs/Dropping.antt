-- What is left of a list that a loop walks, one or two elements at a time.
use mathlib.Core.Path.{◌≡◌, ap, ◌∙◌}
use mathlib.Core.List.{List, ◌∷◌}
use Prim.Native.Nat.{ℕ, ◌+◌, ◌<◌}
use native.Mathlib.Omega.{arith}
use native.Mathlib.Numerals.{add-one}
use lib.ListN.{length, drop, get_or}
use lib.Seq.{drop-cons}

pub drop_one : {A : Type 0} (d : A) (l : List A) (i : ℕ) → i < length l → drop i l ≡ get_or l i d ∷ drop (i + 1) l
drop_one d l i h = rw (add-one, drop-cons l i d)

pub drop_two : {A : Type 0} (d : A) (l : List A) (i : ℕ) → i + 1 < length l → drop i l ≡ get_or l i d ∷ get_or l (i + 1) d ∷ drop (i + 2) l
drop_two {A} d l i h =
    let e : i + 1 + 1 ≡ i + 2 = omega arith in
    drop_one d l i (omega arith) ∙ ap (λ (t : List A). get_or l i d ∷ t) (drop_one d l (i + 1) h ∙ ap (λ (k : ℕ). get_or l (i + 1) d ∷ drop k l) e)
