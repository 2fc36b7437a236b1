-- Where the walk over probe words stops, and that none is refused with 16.
use mathlib.Core.Path.{◌≡◌}
use mathlib.Core.Bool.{Bool, true, false, not}
use mathlib.Core.Logic.{inr}
use mathlib.Core.List.{List}
use Prim.Native.Nat.{ℕ, ◌+◌}
use native.Mathlib.Omega.{arith}
use native.Mathlib.Nat.{zero-add}
use lib.Dec.{leb, ltb}
use lib.ListN.{length}
use Rattle.refusals.specs.Walk.{Walk, got, stop, stop_if, next}
use Rattle.refusals.specs.Stops.{StopsAt, Stopping, Never}
use Rattle.refusals.proofs.Walking.{stop_if_got}
use Rattle.refusals.proofs.Stopping.{same_stop, word_stopping, got_stopping, next_stopping, then_stopping, counted_stopping, walked_stops}
use Rattle.refusals.proofs.Never.{refuse_never, walked_never}
use Rattle.puzzles.specs.Puzzle.{Puzzle, width, height}
use Rattle.puzzles.specs.Checks.{colors}
use Rattle.probes.specs.Probes.{Claim, Probe, read_claim, listed, is_color, read_probe, read_probes, probe_checks}
use Rattle.probes.specs.Stops.{ProbePlaces}
use Rattle.probes.proofs.ProbeReaders.{claim_reader}

-- what is read behind a premise
abbrev impacts_of : ℕ → ℕ → Claim → ℕ → List ℕ → Walk ℕ Probe
impacts_of w h p j us = next (listed (read_claim w h) j us) (λ qs k vs. got (record { premise = p; impacts = qs }) k vs)

module _ (O : ℕ → Type 0) (o : (k : ℕ) → (k ≡ 1 → ⊥) → (k ≡ 16 → ⊥) → O k) (w h : ℕ) where
  claim_stopping : Stopping 1 O (read_claim w h)
  unfolding read_claim
  claim_stopping =
      let on : O 17 = o 17 (λ e. omega arith) (λ e. omega arith) in
      then_stopping 1 O (word_stopping 1 O (leb w) on)
      (λ x. then_stopping 1 O (word_stopping 1 O (leb h) on)
      (λ y. then_stopping 1 O (word_stopping 1 O (ltb 31) (o 18 (λ e. omega arith) (λ e. omega arith)))
      (λ c. got_stopping 1 O (record { x = x; y = y; color = c }))))

  listed_stopping : {A : Type 0} {f : ℕ → List ℕ → Walk ℕ A} → Stopping 1 O f → Stopping 1 O (listed f)
  listed_stopping F = counted_stopping 1 O F (λ n. n) (word_stopping 1 O (λ n. false) (o 0 (λ e. omega arith) (λ e. omega arith)))

  module _ (K : ℕ) where
    impacts_stopping : (p : Claim) → Stopping 1 O (impacts_of w h p)
    impacts_stopping p = then_stopping 1 O (listed_stopping claim_stopping) (λ qs. got_stopping 1 O (record { premise = p; impacts = qs }))

    -- 19 is at the premise's colour, two words behind its first
    color_stops : (i : ℕ) (ws : List ℕ) (p : Claim) (j : ℕ) (us : List ℕ) → read_claim w h i ws ≡ got p j us → (k q : ℕ)
        → stop_if (not (is_color K p.color)) 19 (i + 2) (impacts_of w h p j us) ≡ stop k q
        → StopsAt 1 O (j + length us) k q
    color_stops i ws p j us g k q e = go (not (is_color K p.color)) e
      where
        go : (b : Bool) → stop_if b 19 (i + 2) (impacts_of w h p j us) ≡ stop k q → StopsAt 1 O (j + length us) k q
        go true e =
            let s = same_stop e in
            inr (rw (← s.0) (o 19 (λ e. omega arith) (λ e. omega arith)), omega (arith, s.1, ((claim_reader w h).only i ws p j us g).place_is))
        go false e = (impacts_stopping p).stops j us k q e

    probe_stopping : Stopping 1 O (read_probe w h K)
    unfolding read_probe
    probe_stopping = next_stopping 1 O claim_stopping color_stops (λ i p j us c l vs e. (impacts_stopping p).goes j us c l vs (stop_if_got (not (is_color K p.color)) 19 (i + 2) _ e).1)

    probes_stopping : Stopping 1 O (listed (read_probe w h K))
    probes_stopping = listed_stopping probe_stopping

pub probe_places : ProbePlaces
unfolding read_probes
probe_places w h K us k p e =
    rw zero-add at (walked_stops 1 (λ k. k ≡ 1 → ⊥) (probes_stopping (λ k. k ≡ 1 → ⊥) (λ k n m. n) w h K) {k = 11} (λ e. omega arith) 0 us e)

pub probes_never : (z : Puzzle) (us : List ℕ) → Never 16 (probe_checks z us)
unfolding read_probes
probes_never z us =
    refuse_never 16
    (walked_never 16 (λ e. omega arith) (probes_stopping (λ k. 16 ≡ k → ⊥) (λ k n m e. m (omega arith)) (width z) (height z) (colors z)) {k = 11} (λ e. omega arith) 0 us)
    (ltb 1048576 (length us)) (length us) (λ e. omega arith)
