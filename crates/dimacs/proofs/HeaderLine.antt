-- A line of two numbers, the first line, as it is counted and as it is written, and the whole text.
use mathlib.Core.Path.{◌≡◌}
use mathlib.Core.List.{List, [], ◌∷◌, ◌++◌}
use Prim.Native.Nat.{ℕ, ◌+◌}
use native.Mathlib.Omega.{arith}
use lib.ListN.{length, length-append}
use Rattle.lists.specs.Wrote.{Wrote}
use Rattle.lists.proofs.Writing.{wrote_then}
use Rattle.sections.specs.Sections.{Clause}
use Rattle.dimacs.specs.Text.{digits, space, newline, numbers_line, problem, header, clauses_text, text}

pub line_long : (before : List ℕ) (a : ℕ) (between : List ℕ) (b : ℕ) → length (numbers_line before a between b) ≡ length before + length (digits a) + length between + length (digits b) + 1
line_long before a between b =
    let ends = digits b ++ (newline ∷ []) in
    omega (arith, length-append before (digits a ++ (between ++ ends)), length-append (digits a) (between ++ ends), length-append between ends, length-append (digits b) (newline ∷ []))

module _ (v n : ℕ) where
  pub header_long : length (header v n) ≡ length (digits v) + length (digits n) + 8
  unfolding header
  header_long = omega (arith, line_long problem v (space ∷ []) n)

-- ---- the other lines behind it

module _ (v : ℕ) (cs : List Clause) {n : ℕ} (e : n ≡ length cs) where
  pub text_long : length (text v cs) ≡ length (header v n) + length (clauses_text cs)
  unfolding text
  text_long = rw e (length-append (header v (length cs)) (clauses_text cs))

  pub text_wrote : {out out₁ out₂ : List ℕ} {at to : ℕ} → Wrote (header v n) out 0 out₁ at → Wrote (clauses_text cs) out₁ at out₂ to → Wrote (text v cs) out 0 out₂ to
  unfolding text
  text_wrote w x = rw (← e) (wrote_then (omega arith) w x)
