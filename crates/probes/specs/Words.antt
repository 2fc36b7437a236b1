-- The words of claims and probes.
use mathlib.Core.List.{List, [], ◌∷◌, ◌++◌, flat_map}
use Rattle.std.specs.Prelude.{ℕ, ◌+◌, length, get_or}
use Rattle.probes.specs.Probes.{Claim, Probe}

-- the claim whose words begin at place i
abbrev pub claim_at : List ℕ → ℕ → Claim
claim_at ws i = record { x = get_or ws i 0; y = get_or ws (i + 1) 0; color = get_or ws (i + 2) 0 }

-- x, y, colour
abbrev pub claim_words : Claim → List ℕ
claim_words q = q.x ∷ q.y ∷ q.color ∷ []

abbrev pub claims_words : List Claim → List ℕ
claims_words qs = flat_map claim_words qs

-- and impact count, then the impacts
unfoldable pub probe_words : Probe → List ℕ
probe_words p = claim_words p.premise ++ (length p.impacts ∷ claims_words p.impacts)

abbrev pub probes_words : List Probe → List ℕ
probes_words ps = flat_map probe_words ps

-- all of them, after their count
abbrev pub list_words : List Probe → List ℕ
list_words ps = length ps ∷ probes_words ps
