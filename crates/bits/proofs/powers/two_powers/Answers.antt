use mathlib.Core.Path.{◌≡◌, refl, sym, ◌∙◌}
use mathlib.Core.List.{List}
use Prim.Native.Nat.{ℕ, ◌-◌, ◌^◌, ◌<◌, ◌≤◌}
use native.Mathlib.Omega.{arith}
use lib.Bits.{and_le_r}
use lib.Count.{ones}
use lib.ListN.{length, take}
use lib.Seq.{length-take-le}
use Rattle.lists.proofs.Writing.{fill_first, fill_store, wrote_at_front}
use Rattle.refusals.proofs.Answering.{answers_short, answers_wrote}
use Rattle.bits.specs.Bits.{powers}
use Rattle.bits.proofs.LowestFirst.{powers_left, powers_more, powers_all, powers_count}
use Rattle.bits.proofs.powers.two_powers.Goals as goal

pub returns-then-out-need : goal.returns-then-out-need
returns-then-out-need c = answers_short _ _ refl (sym (powers_count _ (omega arith))) (omega arith)

-- the words lent are as many as the powers
as_many : (mask : ℕ) (out : List ℕ) → mask < 2 ^ 32 → ones mask ≤ length out → length (powers mask) ≡ length (take (ones mask) out)
as_many mask out h l = powers_count mask h ∙ sym (length-take-le (ones mask) out l)

pub loop-word-init : goal.loop-word-init
loop-word-init c = (fill_first _ _ _ (omega (arith, as_many c.args.mask c.args.out.now (omega arith) c.if-out-need.false)) refl, omega arith)

pub overflow_sub-next : goal.overflow_sub-next
overflow_sub-next c = powers_more c.loop-word.rest c.loop-word.invariant.0 (as_many c.args.mask c.args.out.now (omega arith) c.if-out-need.false) c.loop-word-test.true

pub loop-word-preserved : goal.loop-word-preserved
loop-word-preserved c =
    let L = c.loop-word in
    let more = powers_more L.rest L.invariant.0 (as_many c.args.mask c.args.out.now (omega arith) c.if-out-need.false) c.loop-word-test.true in
    (fill_store (powers_left L.rest (omega arith) more L.invariant.0), omega (arith, and_le_r L.rest (L.rest - 1)))

pub returns : goal.returns
returns c =
    let same = powers_all c.loop-word.rest c.loop-word.invariant.0 (as_many c.args.mask c.args.out.now (omega arith) c.if-out-need.false) c.loop-word-test.false in
    let n = powers_count c.args.mask (omega arith) in
    answers_wrote _ _ refl (omega (arith, n, c.if-out-need.false)) (rw same (wrote_at_front (powers c.args.mask) c.args.out.now _ (sym n)))
