use mathlib.Core.Path.{sym}
use native.Mathlib.Omega.{arith}
use lib.Pow.{pow_mono}
use Rattle.bits.proofs.SetBits.{bit_beyond}
use Rattle.bits.proofs.mask.has.Goals as goal

pub returns-then-k-gt31 : goal.returns-then-k-gt31
returns-then-k-gt31 c =
    let k = c.args.k in
    sym (bit_beyond _ k (omega (arith, pow_mono {i = 32} {j = k} (omega arith))))
