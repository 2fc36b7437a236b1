-- Where the walk over clause words stops, and the numbers that none are refused with.
use mathlib.Core.Path.{◌≡◌, refl}
use mathlib.Core.List.{List}
use Prim.Native.Nat.{ℕ}
use native.Mathlib.Nat.{zero-add}
use lib.Dec.{ltb}
use lib.IntN.{ℤ, nat_abs}
use lib.ListN.{length}
use Rattle.refusals.specs.Walk.{times}
use Rattle.refusals.specs.Stops.{Stopping, Never}
use Rattle.refusals.proofs.Stopping.{word_stopping, times_stopping, counted_stopping, walked_stops}
use Rattle.refusals.proofs.Never.{refuse_never, walked_never}
use Rattle.literals.specs.Literals.{largest, is_negative, off_literal}
use Rattle.formulas.specs.Walk.{read_clause, read_section, word_checks}
use Rattle.formulas.specs.Stops.{ClausePlaces}

sections_stopping : (O : ℕ → Type 0) → O 22 → (v n : ℕ) → Stopping 22 O (times n (read_section v))
sections_stopping O o v n =
    let count = word_stopping 22 O is_negative o in
    let clause : Stopping 22 O (read_clause v) = counted_stopping 22 O (word_stopping 22 O (off_literal v) o) nat_abs count in
    times_stopping 22 O (counted_stopping 22 O clause nat_abs count) n

pub clause_places : ClausePlaces
clause_places v n ws k p e = rw zero-add at (walked_stops 22 (λ k. k ≡ 22) (sections_stopping (λ k. k ≡ 22) refl v n) refl 0 ws e)

pub words_never : (m : ℕ) → (m ≡ 21 → ⊥) → (m ≡ 22 → ⊥) → (v n : ℕ) (ws : List ℤ) → Never m (word_checks v n ws)
words_never m a b v n ws =
    refuse_never m
    (refuse_never m (refuse_never m (walked_never m b (sections_stopping (λ k. m ≡ k → ⊥) b v n) b 0 ws) (ltb 1073741824 (length ws)) 2 a) (ltb 16 n) 1 a)
    (ltb largest v) 0 a
