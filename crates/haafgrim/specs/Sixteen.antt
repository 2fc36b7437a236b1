-- Document 01, number 16: no promise of any entry allows it, whatever the input. So it can be taken out.
use Rattle.std.specs.Prelude.{◌≡◌, List, ℕ, ℤ}
use Rattle.haafgrim.specs.Entries.{Promise, TwoPowers, ReadLine, Starts, ColorRanges, ReadGrid, Transpose, Clauses, Counts, CheckModel, Blocking, Probes, Dimacs}

abbrev pub NoSixteen : {A : Type 0} → Promise A → Type 0
NoSixteen {A} promise = (n p : ℕ) (out : List A) → promise n p out → n ≡ 16 → ⊥

-- of all that have a number
pub record NeverSixteen : Type 0 where
  pub two_powers : (mask : ℕ) (out : List ℕ) → NoSixteen (TwoPowers mask out)
  pub read_line : (line out : List ℕ) → NoSixteen (ReadLine line out)
  pub starts : (n : ℕ) (clue out : List ℕ) → NoSixteen (Starts n clue out)
  pub color_ranges : (n : ℕ) (clue out : List ℕ) → NoSixteen (ColorRanges n clue out)
  pub read_grid : (w h : ℕ) (grid out : List ℕ) → NoSixteen (ReadGrid w h grid out)
  pub transpose : (w h : ℕ) (grid out : List ℕ) → NoSixteen (Transpose w h grid out)
  pub clauses : (ws : List ℕ) (out : List ℤ) → NoSixteen (Clauses ws out)
  pub counts : (ws out : List ℕ) → NoSixteen (Counts ws out)
  pub check_model : (ws model out : List ℕ) → NoSixteen (CheckModel ws model out)
  pub block : (ws model : List ℕ) (out : List ℤ) → NoSixteen (Blocking ws model out)
  pub probe : (ws probe : List ℕ) (out : List ℤ) → NoSixteen (Probes ws probe out)
  pub dimacs : (variables sections : ℕ) (ws : List ℤ) (out : List ℕ) → NoSixteen (Dimacs variables sections ws out)
