-- Parts of one length, one after another.
use mathlib.Core.Path.{◌≡◌, sym, ◌∙◌}
use mathlib.Core.List.{List}
use Prim.Native.Nat.{ℕ, zero, suc, ◌+◌, ◌*◌, ◌≤◌, ◌<◌}
use native.Mathlib.Omega.{arith}
use native.Mathlib.Nat.{zero-mul, suc-mul, mul-le-mul_right}
use native.Mathlib.Decide.{ℕ_discrete}
use lib.ListN.{length, take, drop, get_or, length-append, length-drop, get_or-append}
use lib.Seq.{length-take-le, get_or-append-add, get_or-take, get_or-drop, ext_get_or}
use Rattle.lists.specs.Each.{each, tab}
use Rattle.lists.proofs.Eaches.{each_length, length_tab, get_or_tab}

-- part i of n parts is within them all
pub part_within : (n m i : ℕ) → i < n → i * m + m ≤ n * m
part_within n m i h = omega (arith, mul-le-mul_right {m = suc i} {n = n} m h, suc-mul i m)

-- and so is its element j
pub place_within : (n m i j : ℕ) → i < n → j < m → i * m + j < n * m
place_within n m i j h l = omega (arith, part_within n m i h)

module _ {A : Type 0} where
  -- no part is longer than m
  pub each_most : (n m : ℕ) (f : ℕ → List A) → ((k : ℕ) → length (f k) ≤ m) → length (each n f) ≤ n * m
  unfolding each
  each_most zero m f h = omega (arith, zero-mul m)
  each_most (suc n) m f h = omega (arith, length-append (each n f) (f n), h n, each_most n m f h, suc-mul n m)

  -- element j of part i
  pub get_or_each : (n m : ℕ) (f : ℕ → List A) → ((k : ℕ) → length (f k) ≡ m) → (d : A) (i j : ℕ) → i < n → j < m → get_or (each n f) (i * m + j) d ≡ get_or (f i) j d
  unfolding each
  get_or_each zero m f s d i j h l = absurd (omega arith)
  get_or_each (suc n) m f s d i j h l = elim (ℕ_discrete i n) [
    | yes e ↦ rw (e, ← each_length n m f s) (get_or-append-add (each n f) (f n) j d)
    | no e ↦
        get_or-append (each n f) (f n) d (i * m + j) (omega (arith, each_length n m f s, place_within n m i j (omega arith) l))
        ∙ get_or_each n m f s d i j (omega arith) l
  ]

  -- the m elements from place s on
  pub part_tab : (d : A) (l : List A) (s m : ℕ) → s + m ≤ length l → take m (drop s l) ≡ tab m (λ j. get_or l (s + j) d)
  part_tab d l s m h =
      let n : length (take m (drop s l)) ≡ m = length-take-le m (drop s l) (omega (arith, length-drop s l)) in
      ext_get_or d _ _ (n ∙ sym (length_tab m _))
      (λ j k. get_or-take m (drop s l) j d (omega arith) ∙ get_or-drop s l j d ∙ sym (get_or_tab m (λ j. get_or l (s + j) d) d j (omega arith)))
