use lib.ListN.{length, get_or}
use Rattle.counts.specs.Formulas.{units_by}
use Rattle.counts.proofs.Summing.{Summing}
use Rattle.counts.proofs.units.count_units.Given as goal

abbrev pub invariant-loop-mask : goal.invariant-loop-mask
invariant-loop-mask l = Summing (length l.masks) 31 (λ i. units_by l.colors (get_or l.masks i 0)) l.total l.mask-index
