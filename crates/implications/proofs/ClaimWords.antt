-- Words as claims, three words each.
use mathlib.Core.Path.{◌≡◌, refl, ◌∙◌}
use mathlib.Core.List.{List, [], ◌∷◌}
use Prim.Native.Nat.{ℕ, zero, suc, ◌+◌, ◌*◌, ◌≤◌, ◌<◌}
use native.Mathlib.Omega.{arith}
use lib.ListN.{length, get_or}
use Rattle.std.specs.Simd.{first_chunks}
use Rattle.probes.specs.Words.{claim_at, claim_words}

pub chunk_is : (ws : List ℕ) (n j : ℕ) → 3 * n ≤ length ws → j < n → get_or (first_chunks 3 n ws) j [] ≡ claim_words (claim_at ws (3 * j))
chunk_is ws zero j h k = absurd (omega arith)
chunk_is [] (suc n) j h k = absurd (omega arith)
chunk_is (x ∷ []) (suc n) j h k = absurd (omega arith)
chunk_is (x ∷ y ∷ []) (suc n) j h k = absurd (omega arith)
chunk_is (x ∷ y ∷ z ∷ ws) (suc n) zero h k = refl
chunk_is (x ∷ y ∷ z ∷ ws) (suc n) (suc j) h k =
    let e : 3 * suc j ≡ suc (suc (suc (3 * j))) = omega arith in
    let f : 3 * suc j + 1 ≡ suc (suc (suc (3 * j + 1))) = omega arith in
    let g : 3 * suc j + 2 ≡ suc (suc (suc (3 * j + 2))) = omega arith in
    chunk_is ws n j (omega arith) (omega arith) ∙ rw (f, g, e)
