-- The parts of probe words that are accepted: the words of each probe, which a loop takes one after another.
use Rattle.std.specs.Prelude.{◌≡◌, List, [], ◌∷◌, ℕ, zero, suc, ◌+◌, ◌*◌, length, take, drop, get_or}
use Rattle.probes.specs.Probes.{Probe}
use Rattle.probes.specs.Words.{probes_words, list_words}

-- they are the words of a list of probes, and no more
pub record Formed (us : List ℕ) : Type 0 where
  pub probes : List Probe
  pub words_are : us ≡ list_words probes

-- how many words the probe has that they begin with
abbrev pub part_length : List ℕ → ℕ
part_length us = 4 + 3 * get_or us 3 0

unfoldable pub parts_ahead : ℕ → List ℕ → List (List ℕ)
parts_ahead zero us = []
parts_ahead (suc left) us = take (part_length us) us ∷ parts_ahead left (drop (part_length us) us)

unfoldable pub parts_in : List ℕ → List (List ℕ)
parts_in us = parts_ahead (get_or us 0 0) (drop 1 us)

-- what is behind the walk's place
pub record Ahead (left : ℕ) (us : List ℕ) : Type 0 where
  pub probes : List Probe
  pub words_are : us ≡ probes_words probes
  pub left_is : left ≡ length probes
