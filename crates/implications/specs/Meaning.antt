-- What the clauses of probes say of any grid over blank and K, picture or not.
use Rattle.std.specs.Prelude.{◌≡◌, ◌↔◌, List, [], ℕ, ◌+◌, ◌*◌, ◌<◌, length, get_or}
use Rattle.refusals.specs.Verdict.{passed}
use Rattle.truth.specs.Truth.{Assignment, Satisfies}
use Rattle.puzzles.specs.Puzzle.{Puzzle, width}
use Rattle.puzzles.specs.Checks.{puzzle, puzzle_checks}
use Rattle.pictures.specs.Pictures.{IsColor, Grid, Extends}
use Rattle.probes.specs.Probes.{Claim, Probe, probes, probe_checks}
use Rattle.implied.specs.Implications.{implications}

abbrev pub HoldsOf : Puzzle → List ℕ → Claim → Type 0
HoldsOf z grid q = get_or grid (q.y * width z + q.x) 0 ≡ q.color

abbrev pub impact_at : Probe → ℕ → Claim
impact_at p j = get_or p.impacts j (record { x = 0; y = 0; color = 0 })

abbrev pub probe_at : List Probe → ℕ → Probe
probe_at ps i = get_or ps i (record { premise = record { x = 0; y = 0; color = 0 }; impacts = [] })

-- where the probe cell has the probe colour, every impact that is not dropped holds
abbrev pub Implies : Puzzle → List ℕ → Probe → Type 0
Implies z grid p =
    HoldsOf z grid p.premise → (j : ℕ) → j < length p.impacts → IsColor z (impact_at p j).color → HoldsOf z grid (impact_at p j)

-- accepted words of a puzzle and of probes, a grid, and the assignments that extend it
abbrev pub ProbesMean : Type 0
ProbesMean =
    (ws us : List ℕ) → passed ≡ puzzle_checks ws → passed ≡ probe_checks (puzzle ws) us
    → (grid : List ℕ) → Grid (puzzle ws) grid → (β : Assignment) → Extends (puzzle ws) grid β
    → Satisfies β (implications (puzzle ws) (probes (puzzle ws) us))
    ↔ ((i : ℕ) → i < length (probes (puzzle ws) us) → Implies (puzzle ws) grid (probe_at (probes (puzzle ws) us) i))
