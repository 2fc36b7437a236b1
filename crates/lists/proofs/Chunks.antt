-- What stands in the chunks of a list.
use mathlib.Core.Path.{◌≡◌, ◌∙◌}
use mathlib.Core.List.{List, []}
use Prim.Native.Nat.{ℕ, zero, suc, ◌+◌, ◌*◌, ◌<◌}
use native.Mathlib.Omega.{arith}
use lib.ListN.{drop, get_or}
use lib.Seq.{get_or-drop}
use Rattle.std.proofs.lemmas.List.{get_or-take}
use Rattle.std.specs.Simd.{first_chunks}

-- word j of chunk b
pub chunk_word : {A : Type 0} (d : A) (n k b j : ℕ) (xs : List A) → b < k → j < n → get_or (get_or (first_chunks n k xs) b []) j d ≡ get_or xs (n * b + j) d
chunk_word d n zero b j xs h l = absurd (omega arith)
chunk_word d n (suc k) zero j xs h l = let e : n * 0 + j ≡ j = omega arith in get_or-take n xs j d l ∙ rw e
chunk_word d n (suc k) (suc b) j xs h l =
    let e : n * suc b + j ≡ n + (n * b + j) = omega arith in
    chunk_word d n k b j (drop n xs) (omega arith) l ∙ get_or-drop n xs (n * b + j) d ∙ rw e
