use mathlib.Core.Path.{ap, ◌∙◌}
use mathlib.Core.List.{List, []}
use Prim.Native.Nat.{ℕ}
use native.Mathlib.Omega.{arith}
use lib.ListN.{get_or}
use Rattle.implications.proofs.ClaimWords.{chunk_is}
use Rattle.implications.proofs.claims.claims.Goals as goal

pub returns-clause-claims : goal.returns-clause-claims
returns-clause-claims c = λ j h. ap (λ (l : List (List ℕ)). get_or l j []) c.as_chunks.ensures.front ∙ chunk_is _ _ j (omega arith) h
