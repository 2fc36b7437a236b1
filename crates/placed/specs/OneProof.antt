-- What the ghost field of `LineTrial` says has one proof at most, as a ghost field asks.
use Rattle.std.specs.Prelude.{ℕ}
use Rattle.std.proofs.Props.{props}
use Rattle.numbering.specs.Variables.{Line}
use Rattle.placed.specs.Known.{Known}

pub known_prop : (n : ℕ) (L : Line) → IsProp (Known n L)
known_prop n L = hlevel props
