use native.Mathlib.Omega.{arith}
use Rattle.lists.proofs.Writing.{wrote_then}
use Rattle.dimacs.proofs.HeaderLine.{line_long}
use Rattle.dimacs.proofs.digits.put_line.Goals as goal

pub returns : goal.returns
returns c =
    let l = line_long c.args.before.now c.args.a c.args.between.now c.args.b in
    let from_b = wrote_then (omega (arith, l)) c.put_number-end.ensures c.put_slice.ensures in
    let from_a = wrote_then (omega (arith, l)) c.put_number-to.ensures (wrote_then (omega (arith, l)) c.put_slice-from.ensures from_b) in
    wrote_then (omega arith) c.put_slice-at.ensures from_a
