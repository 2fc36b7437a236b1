use native.Mathlib.Omega.{arith}
use native.Mathlib.Nat.{one-mul}
use lib.Pow.{shl_exact}
use borrow.Author.Tests.{lt-ltb}
use Rattle.bits.specs.Bits.{with_bit}
use Rattle.bits.proofs.mask.set.Goals as goal

pub returns : goal.returns
unfolding with_bit
returns c =
    let k = c.args.k in
    rw (shl_exact {a = 1} 1 k 32 (omega (arith, c.requires)) (omega (arith, c.requires)), one-mul, lt-ltb k 32 (omega (arith, c.requires)))
