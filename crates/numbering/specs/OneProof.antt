-- What the ghost fields of `Line` and `Lines` say has one proof at most, as a ghost field asks.
use Rattle.std.specs.Prelude.{◌≡◌, List, ℕ, ◌≤◌}
use Rattle.std.specs.Coded.{le_prop}
use Rattle.std.proofs.Common.{sym, ap, map, ◌∙◌}
use Rattle.std.proofs.Props.{props}
use mathlib.Core.HLevel.{is_prop→PathP}
use native.Mathlib.Omega.{arith}
use Rattle.lines.specs.Clue.{gap, packed, min_space, positions}
use Rattle.lines.specs.Arrangement.{Proper}
use Rattle.lines.proofs.Packing.{block, packed_blocks}
use Rattle.lines.proofs.Moving.{positions_space}
use Rattle.numbering.specs.Variables.{Line}
use Rattle.numbering.specs.Tables.{Ready, Sound}

module _ (L : Line) (s t : Sound L) where
  same_clue : s.clue ≡ t.clue
  same_clue = sym (packed_blocks gap s.clue) ∙ ap (map block) (sym s.runs_are ∙ t.runs_are) ∙ packed_blocks gap t.clue

  same_cells : s.cells ≡ t.cells
  same_cells = omega (arith, s.positions_are, positions_space gap s.cells s.clue s.fits, t.positions_are, positions_space gap t.cells t.clue t.fits, ap (min_space gap) same_clue)

pub sound_prop : (L : Line) → IsProp (Sound L)
sound_prop L s t = λ i. record {
  cells = same_cells L s t i;
  clue = same_clue L s t i;
  short = is_prop→PathP (λ j. same_cells L s t j ≤ 64) (λ j. le_prop) s.short t.short i;
  proper = is_prop→PathP (λ j. Proper (same_clue L s t j)) (λ j. hlevel props) s.proper t.proper i;
  fits = is_prop→PathP (λ j. min_space gap (same_clue L s t j) ≤ same_cells L s t j) (λ j. le_prop) s.fits t.fits i;
  runs_are = is_prop→PathP (λ j. L.runs ≡ packed gap (same_clue L s t j)) (λ j. hlevel props) s.runs_are t.runs_are i;
  positions_are = is_prop→PathP (λ j. L.positions ≡ positions gap (same_cells L s t j) (same_clue L s t j)) (λ j. hlevel props) s.positions_are t.positions_are i;
  least = le_prop s.least t.least i;
  most = le_prop s.most t.most i;
}

pub ready_prop : (ws table : List ℕ) → IsProp (Ready ws table)
ready_prop ws table = hlevel props
