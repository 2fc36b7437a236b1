use Prim.Native.Nat.{ℕ, ◌^◌, ◌≤◌, ◌<◌}
use native.Mathlib.Omega.{arith}
use lib.ListN.{length}
use Rattle.dimacs.proofs.HeaderLine.{line_long}
use Rattle.dimacs.proofs.PutDigits.{digits_few}
use Rattle.encoding.specs.Encode.{refused_word, at_word, refused_text}
use Rattle.encoding.proofs.refused.put_refused.Goals as goal

few : (k p : ℕ) → k < 2 ^ 64 → p < 2 ^ 64 → length (refused_text k p) ≤ 53
unfolding refused_text
few k p h l = omega (arith, line_long refused_word k at_word p, digits_few k h, digits_few p l)

pub put_line-requires : goal.put_line-requires
unfolding refused_text
put_line-requires c = omega (arith, few c.args.number c.args.place c.ranges.number.fits c.ranges.place.fits)

pub returns : goal.returns
unfolding refused_text
returns c = (c.put_line.ensures, omega (arith, c.put_line.ensures.next_is, few c.args.number c.args.place c.ranges.number.fits c.ranges.place.fits))
