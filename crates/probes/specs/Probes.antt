-- Document 01, "Probe words": count; per probe x, y, colour and impact count, then x, y, colour each.
-- One walk from the left gives 1, 17, 18, 19 at the first word that offends.
use Rattle.std.specs.Prelude.{Bool, false, not, ◌||◌, List, [], ℕ, ◌+◌, eqb, leb, ltb, length}
use Rattle.refusals.specs.Verdict.{Checks, refuse}
use Rattle.refusals.specs.Walk.{Walk, got, walked, read_or, stop_if, next, word, counted}
use Rattle.bits.specs.Bits.{bit}
use Rattle.puzzles.specs.Puzzle.{Puzzle, width, height}
use Rattle.puzzles.specs.Checks.{colors}

-- that the cell of column x and row y has a colour, or is blank
pub record Claim : Type 0 where
  pub x : ℕ
  pub y : ℕ
  pub color : ℕ

-- where the premise holds, the impacts do
pub record Probe : Type 0 where
  pub premise : Claim
  pub impacts : List Claim

-- on a grid of w columns and h rows
unfoldable pub read_claim : ℕ → ℕ → ℕ → List ℕ → Walk ℕ Claim
read_claim w h i ws =
    next (word 1 (leb w) 17 i ws) (λ x j us.
    next (word 1 (leb h) 17 j us) (λ y k vs.
    next (word 1 (ltb 31) 18 k vs) (λ c l xs.
    got (record { x = x; y = y; color = c }) l xs)))

-- a count, which any word is, and as many after it
abbrev pub listed : {A : Type 0} → (ℕ → List ℕ → Walk ℕ A) → ℕ → List ℕ → Walk ℕ (List A)
listed = counted (λ n. n) (word 1 (λ n. false) 0)

-- blank, or a colour of the set K
abbrev pub is_color : ℕ → ℕ → Bool
is_color K c = eqb c 0 || bit K c

unfoldable pub read_probe : ℕ → ℕ → ℕ → ℕ → List ℕ → Walk ℕ Probe
read_probe w h K i ws =
    next (read_claim w h i ws) (λ p j us. stop_if (not (is_color K p.color)) 19 (i + 2)
    (next (listed (read_claim w h) j us) (λ qs k vs. got (record { premise = p; impacts = qs }) k vs)))

unfoldable pub read_probes : ℕ → ℕ → ℕ → List ℕ → Walk ℕ (List Probe)
read_probes w h K ws = listed (read_probe w h K) 0 ws

-- 20, the walk, 11
abbrev pub checks_on : ℕ → ℕ → ℕ → List ℕ → Checks
checks_on w h K ws = refuse (ltb 1048576 (length ws)) 20 (length ws) (walked 11 (read_probes w h K ws))

-- of a puzzle: the probes that words hold, and their refusals
abbrev pub probes : Puzzle → List ℕ → List Probe
probes z ws = read_or [] (read_probes (width z) (height z) (colors z) ws)

abbrev pub probe_checks : Puzzle → List ℕ → Checks
probe_checks z ws = checks_on (width z) (height z) (colors z) ws
