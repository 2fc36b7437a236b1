-- Probe words that are accepted: all that holds of them; and the words of fine probes are accepted and read as them.
use mathlib.Core.Path.{◌≡◌, sym, ap, ◌∙◌}
use mathlib.Core.List.{List, [], append-nil}
use Prim.Native.Nat.{ℕ, ◌≤◌}
use native.Mathlib.Nat.{zero-add}
use lib.Dec.{ltb}
use lib.ListN.{length}
use borrow.Author.Tests.{le-ltb, ltb-false}
use Rattle.lists.specs.Each.{Every}
use Rattle.refusals.specs.Verdict.{passed}
use Rattle.refusals.specs.Walk.{got, walked, read_or}
use Rattle.refusals.proofs.Answering.{refuse_accepted}
use Rattle.refusals.proofs.Readers.{Reads, walked_is}
use Rattle.puzzles.specs.Puzzle.{Puzzle, width, height}
use Rattle.puzzles.specs.Checks.{colors}
use Rattle.probes.specs.Probes.{Probe, read_probes, probes, probe_checks, checks_on}
use Rattle.probes.specs.Words.{list_words}
use Rattle.probes.proofs.ProbeReaders.{FineProbe, no_probe, probes_reader}

-- the probes that words hold
abbrev pub held_in : ℕ → ℕ → ℕ → List ℕ → List Probe
held_in w h K us = read_or [] (read_probes w h K us)

-- they are few, they are the words of these probes, and each of them is fine
pub record Accepted (w h K : ℕ) (us : List ℕ) : Type 0 where
  pub few : length us ≤ 1048576
  pub words_are : us ≡ list_words (held_in w h K us)
  pub fine : Every no_probe (FineProbe w h K) (held_in w h K us)

module _ (w h K : ℕ) (us : List ℕ) where
  pub probes_only : (ps : List Probe) (j : ℕ) (vs : List ℕ) → read_probes w h K us ≡ got ps j vs → Reads list_words (Every no_probe (FineProbe w h K)) 0 us ps j vs
  unfolding read_probes
  probes_only ps j vs e = (probes_reader w h K).only 0 us ps j vs e

  pub accepted_probes : passed ≡ checks_on w h K us → Accepted w h K us
  accepted_probes e =
      let r = refuse_accepted (ltb 1048576 (length us)) _ _ _ e in
      let a = walked_is [] 11 (read_probes w h K us) probes_only r.1 in
      record { few = ltb-false 1048576 (length us) r.0; words_are = a.0; fine = a.1 }

-- ---- the words of such probes, for a puzzle

module _ (z : Puzzle) (ps : List Probe) (fine : Every no_probe (FineProbe (width z) (height z) (colors z)) ps) where
  reads : read_probes (width z) (height z) (colors z) (list_words ps) ≡ got ps (length (list_words ps)) []
  unfolding read_probes
  reads =
      ap (read_probes (width z) (height z) (colors z)) (sym (append-nil (list_words ps)))
      ∙ (probes_reader (width z) (height z) (colors z)).back 0 ps [] fine
      ∙ ap (λ k. got ps k []) (zero-add (length (list_words ps)))

  pub probes_accepted : length (list_words ps) ≤ 1048576 → passed ≡ probe_checks z (list_words ps)
  unfolding walked
  probes_accepted few = rw (le-ltb _ _ few, reads)

  pub probes_read : probes z (list_words ps) ≡ ps
  unfolding read_or
  probes_read = rw reads
