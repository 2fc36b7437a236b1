-- What the loops over a model find: its first bad byte, how many variables are true, the first cell with two.
use mathlib.Core.Path.{◌≡◌, refl, ap}
use mathlib.Core.Bool.{Bool, true, false, cond}
use Prim.Native.Nat.{ℕ, zero, suc, ◌+◌, ◌*◌, ◌≤◌, ◌<◌}
use native.Mathlib.Omega.{arith}
use native.Mathlib.Numerals.{add-one}
use lib.Dec.{ltb}
use lib.ListN.{length}
use mir.Val.{bool_byte}
use borrow.Author.Tests.{lt-ltb, le-ltb}
use Rattle.lists.specs.Each.{tab, sum}
use Rattle.lists.proofs.Eaches.{length_tab, get_or_tab}
use Rattle.lists.proofs.Tests.{cond_most}
use Rattle.refusals.specs.Verdict.{passed, refused}
use Rattle.refusals.proofs.Offending.{Searching, searching_found, searching_next, searching_done}
use Rattle.truth.specs.Truth.{Assignment}
use Rattle.checker.specs.Models.{trues, cell_checks}

module _ (β : Assignment) (v : ℕ) where
  pub trues_none : 0 ≡ trues β v 0
  unfolding trues sum
  trues_none = refl

  pub trues_next : (r : ℕ) {total n : ℕ} → total ≡ trues β v r → n ≡ bool_byte (β (v + r)) → total + n ≡ trues β v (r + 1)
  unfolding trues sum
  trues_next r e q = rw (add-one r, e, q) (ap (λ m. trues β v r + m) (byte_is (β (v + r))))
    where
      byte_is : (b : Bool) → bool_byte b ≡ cond b 1 0
      byte_is true = refl
      byte_is false = refl

  pub trues_most : (n : ℕ) → trues β v n ≤ n
  unfolding trues sum
  trues_most zero = omega arith
  trues_most (suc n) = omega (arith, trues_most n, cond_most (β (v + n)))

-- ---- the first cell of two true colours

abbrev pub Pairing : Assignment → ℕ → ℕ → ℕ → ℕ → Type 0
Pairing β v n k i = Searching (λ m. ltb 1 m) 16 0 (tab n (λ i. trues β (v + i * k) k)) i i

module _ (β : Assignment) (v n k : ℕ) where
  module _ {i : ℕ} (S : Pairing β v n k i) where
    module _ (h : i < n) where
      below : i < length (tab n (λ i. trues β (v + i * k) k))
      below = omega (arith, length_tab n (λ i. trues β (v + i * k) k))

      pub pairing_found : 1 < trues β (v + i * k) k → refused 16 i ≡ cell_checks β v n k
      pairing_found l = searching_found S 0 below (rw (get_or_tab n (λ i. trues β (v + i * k) k) 0 i h) (lt-ltb _ _ l))

      pub pairing_next : trues β (v + i * k) k ≤ 1 → Pairing β v n k (i + 1)
      pairing_next l = searching_next S 0 below (rw (get_or_tab n (λ i. trues β (v + i * k) k) 0 i h) (le-ltb _ _ l))

    pub pairing_done : n ≤ i → passed ≡ cell_checks β v n k
    pairing_done l = searching_done S (omega (arith, length_tab n (λ i. trues β (v + i * k) k)))
