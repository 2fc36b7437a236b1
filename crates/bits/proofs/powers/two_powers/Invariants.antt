use Prim.Native.Nat.{◌<◌, ◌^◌}
use Rattle.lists.proofs.Writing.{Filling}
use Rattle.bits.specs.Bits.{powers}
use Rattle.bits.proofs.powers.two_powers.Given as goal

abbrev pub invariant-loop-word : goal.invariant-loop-word
invariant-loop-word l = Filling (powers l.mask) l.initial.word-items 0 (powers l.rest) l.word-items l.word-index × (l.rest < 2 ^ 32)
