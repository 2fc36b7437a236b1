-- What a word is read as: the answer is determined, and what was made is read back.
use mathlib.Core.Path.{◌≡◌, refl, sym, ap, ◌∙◌}
use mathlib.Core.Bool.{true, false, ◌||◌, true≢false, or-true}
use Prim.Native.Nat.{ℕ, ◌≤◌}
use native.Mathlib.Omega.{arith}
use borrow.Author.Tests.{le-ltb, ne_eqb, ltb-false, eqb-false}
use lib.IntN.{ℤ, negsuc}
use lib.Dec.{eqb, ltb}
use Rattle.lists.proofs.Tests.{neither}
use Rattle.std.specs.Prelude.{Option, Some, None}
use Rattle.literals.specs.declared.Literal.{Literal}
use Rattle.literals.specs.Literals.{largest, IsVariable, variable, off_literal, Reading}

-- the smallest i32 is refused
pub smallest_off : (n : ℕ) → off_literal n (negsuc 2147483647) ≡ true
smallest_off n = or-true (ltb n 2147483648)

module _ (n : ℕ) (z : ℤ) where
  -- of a word that is not refused
  pub literal_is : off_literal n z ≡ false → IsVariable (variable z) × (variable z ≤ n)
  literal_is e =
      let a = neither (eqb (variable z) 0) (ltb n (variable z) || ltb largest (variable z)) e in
      let b = neither (ltb n (variable z)) (ltb largest (variable z)) a.1 in
      (record { least = omega (arith, eqb-false (variable z) 0 a.0); most = ltb-false largest (variable z) b.1 }, ltb-false n (variable z) b.0)

  pub reading_determined : (r s : Option Literal) → Reading n z r → Reading n z s → r ≡ s
  reading_determined (Some l) (Some k) a b = ap (λ (w : ℤ). Some (record { word = w })) (a.1 ∙ sym b.1)
  reading_determined (Some l) None a b = absurd (true≢false (sym b ∙ a.0))
  reading_determined None (Some k) a b = absurd (true≢false (sym a ∙ b.0))
  reading_determined None None a b = refl

  -- of a word that was made from a variable v
  module _ {v : ℕ} (e : variable z ≡ v) (i : IsVariable v) (h : v ≤ n) where
    pub made_literal : off_literal n z ≡ false
    made_literal = rw (e, ne_eqb v 0 (λ e. omega arith), le-ltb n v h, le-ltb largest v i.most)

    pub read_back : (r : Option Literal) → Reading n z r → r ≡ Some (record { word = z })
    read_back r a = reading_determined r (Some (record { word = z })) a (made_literal, refl)
