-- The numbering is one to one between (line, block, position), (cell, colour of K) and 1 to V. It holds of every puzzle, accepted or not.
use mathlib.Core.Path.{◌≡◌, sym}
use Prim.Native.Nat.{ℕ, zero, suc, ◌+◌, ◌-◌, ◌*◌, ◌/◌, ◌%◌, ◌≤◌, ◌<◌}
use native.Mathlib.Omega.{arith}
use native.Mathlib.Nat.{mul-zero, mul_comm, mod-lt, div-lt_iff_lt-mul, div-add-mod'}
use native.Mathlib.Decide.{ℕ_discrete, dec_lt}
use lib.ListN.{length}
use Rattle.lists.proofs.Parts.{part_within, place_within}
use Rattle.puzzles.specs.Puzzle.{Puzzle, width, height, lines, clue_at}
use Rattle.puzzles.specs.Firsts.{first_at, positions_at}
use Rattle.numbering.specs.Variables.{line_at, hues, cell_first, variables}
use Rattle.numbering.proofs.Bounds.{first_some}
use Rattle.numbering.specs.Names.{Name, position, cell, IsName, numbered}

-- ---- n parts of length m: each number below n * m is element j of part i, for one i and one j

record Part (n m v : ℕ) : Type 0 where
  i : ℕ
  j : ℕ
  i_in : i < n
  j_in : j < m
  is : i * m + j ≡ v

part_of : (n m v : ℕ) → v < n * m → Part n m v
part_of n m v h = elim (ℕ_discrete m 0) [
  | yes e ↦ let q : v < n * 0 = rw e at h in absurd (omega (arith, mul-zero n))
  | no e ↦
      let s : 0 < m = omega arith in
      record { i = v / m; j = v % m; i_in = (div-lt_iff_lt-mul s).1 h; j_in = mod-lt v s; is = div-add-mod' v m }
]

part_once : (m i j i' j' : ℕ) → j < m → j' < m → i * m + j ≡ i' * m + j' → (i ≡ i') × (j ≡ j')
part_once m i j i' j' h h' e = let q : i' * m + j ≡ i' * m + j' = rw same at e in (same, omega arith)
  where
    apart : (i j i' j' : ℕ) → j < m → i * m + j ≡ i' * m + j' → i < i' → ⊥
    apart i j i' j' h e l = omega (arith, part_within i' m i l)

    same : i ≡ i'
    same = omega (arith, apart i j i' j' h e, apart i' j' i j h' (sym e))

module _ (z : Puzzle) where
  -- ---- the variables of the lines: each is of one line, from its first variable up to the next line's

  first_up : (l n : ℕ) → l ≤ n → first_at z l ≤ first_at z n
  unfolding first_at
  first_up l zero h = let e : l ≡ 0 = omega arith in rw e (omega arith)
  first_up l (suc n) h = elim (ℕ_discrete l (suc n)) [
    | yes e ↦ rw e (omega arith)
    | no e ↦ omega (arith, first_up l n (omega arith))
  ]

  record Within (l v : ℕ) : Type 0 where
    low : first_at z l ≤ v
    high : v < first_at z (suc l)

  line_of_lem : (n v : ℕ) → 0 < v → v < first_at z n → (l : ℕ) × (l < n) × Within l v
  unfolding first_at
  line_of_lem zero v h k = absurd (omega arith)
  line_of_lem (suc n) v h k = elim (dec_lt v (first_at z n)) [
    | yes m ↦ let (l, i, W) = line_of_lem n v h m in (l, omega arith, W)
    | no m ↦ (n, omega arith, record { low = omega arith; high = k })
  ]

  line_once : (l l' v : ℕ) → Within l v → Within l' v → l ≡ l'
  line_once l l' v W W' = omega (arith, apart l l' W W', apart l' l W' W)
    where
      apart : (l l' : ℕ) → Within l v → Within l' v → l < l' → ⊥
      apart l l' W W' h = omega (arith, W.high, W'.low, first_up (suc l) l' h)

  module _ (l b i : ℕ) (h : IsName z (position l b i)) where
    position_within : Within l (numbered z (position l b i))
    unfolding first_at line_at
    position_within = record {
      low = omega arith;
      high = omega (arith, place_within (length (clue_at z l)) (positions_at z l) b i h.1 h.2);
    }

    position_below : numbered z (position l b i) < first_at z (lines z)
    position_below = omega (arith, position_within.high, first_up (suc l) (lines z) h.0)

  -- ---- the theorem

  -- each name has a number from 1 to V
  pub numbered_within : (n : Name) → IsName z n → (0 < numbered z n) × (numbered z n ≤ variables z)
  unfolding cell_first variables
  numbered_within (position l b i) h = (omega (arith, first_some z l, (position_within l b i h).low), omega (arith, position_below l b i h))
  numbered_within (cell x y r) h =
      let c = y * width z + x in
      let c-in : c < width z * height z = omega (arith, place_within (height z) (width z) y x h.1 h.0, mul_comm (height z) (width z)) in
      (omega (arith, first_some z (lines z)), omega (arith, first_some z (lines z), place_within (width z * height z) (hues z) c r c-in h.2))

  -- no two have the same
  pub numbered_once : (n m : Name) → IsName z n → IsName z m → numbered z n ≡ numbered z m → n ≡ m
  unfolding cell_first line_at
  numbered_once (position l b i) (position l' b' i') h h' e =
      let s : l ≡ l' = line_once l l' _ (position_within l b i h) (rw e (position_within l' b' i' h')) in
      let k : i < positions_at z l' = rw s at h.2 in
      let q : first_at z l' + b * positions_at z l' + i ≡ first_at z l' + b' * positions_at z l' + i' = rw s at e in
      let p = part_once (positions_at z l') b i b' i' k h'.2 (omega arith) in
      rw (s, p.0, p.1)
  numbered_once (position l b i) (cell x y r) h h' e = absurd (omega (arith, position_below l b i h))
  numbered_once (cell x y r) (position l b i) h h' e = absurd (omega (arith, position_below l b i h'))
  numbered_once (cell x y r) (cell x' y' r') h h' e =
      let p = part_once (hues z) (y * width z + x) r (y' * width z + x') r' h.2 h'.2 (omega arith) in
      let q = part_once (width z) y x y' x' h.0 h'.0 p.0 in
      rw (q.1, q.0, p.1)

  -- and each number from 1 to V has a name
  pub numbered_all : (v : ℕ) → 0 < v → v ≤ variables z → (n : Name) × IsName z n × (numbered z n ≡ v)
  unfolding cell_first variables first_at line_at
  numbered_all v h k = elim (dec_lt v (first_at z (lines z))) [
    | yes m ↦
        let (l, l-in, W) = line_of_lem (lines z) v h m in
        let P = part_of (length (clue_at z l)) (positions_at z l) (v - first_at z l) (omega (arith, W.low, W.high)) in
        (position l P.i P.j, (l-in, P.i_in, P.j_in), omega (arith, P.is, W.low))
    | no m ↦
        let P = part_of (width z * height z) (hues z) (v - first_at z (lines z)) (omega (arith, first_some z (lines z))) in
        let Q = part_of (height z) (width z) P.i (omega (arith, P.i_in, mul_comm (height z) (width z))) in
        (cell Q.j Q.i P.j, (Q.j_in, Q.i_in, P.j_in), rw Q.is (omega (arith, P.is)))
  ]
