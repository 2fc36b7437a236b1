use Rattle.std.proofs.Common.{arith}
use Rattle.dimacs.proofs.NumberText.{tens}
use Rattle.dimacs.proofs.PutDigits.{one_room, one_wrote, tenth_room, last_room, last_wrote}
use Rattle.dimacs.proofs.digits.+put_number.Goals as goal

pub put_number-to-requires : goal.put_number-to-requires
put_number-to-requires t c = (omega (arith, (tens c.args.n).falls), tenth_room c.args.n c.args.out.now c.args.at c.requires c.if-n-ge10.true)

pub bounds-out-to : goal.bounds-out-to
bounds-out-to t c = last_room c.args.n c.args.out.now c.args.at c.requires c.if-n-ge10.true c.put_number-to.ensures

pub returns-then-n-ge10 : goal.returns-then-n-ge10
returns-then-n-ge10 t c = last_wrote c.args.n c.args.out.now c.args.at c.requires c.if-n-ge10.true c.put_number-to.ensures c.digit.ensures

pub bounds-out-at : goal.bounds-out-at
bounds-out-at t c = one_room c.args.n c.args.out.now c.args.at c.requires (omega arith)

pub returns : goal.returns
returns t c = one_wrote c.args.n c.args.out.now c.args.at c.requires (omega arith) c.digit-2.ensures
