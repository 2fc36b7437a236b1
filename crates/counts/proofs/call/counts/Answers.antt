use native.Mathlib.Omega.{arith}
use mathlib.Core.Path.{sym, ap, ◌∙◌}
use lib.ListN.{length}
use lib.Seq.{length-take-le}
use Rattle.lists.proofs.Writing.{wrote_at_front}
use Rattle.refusals.proofs.Answering.{answers_short, answers_wrote}
use Rattle.counts.specs.Families.{counts_of}
use Rattle.puzzles.specs.Checks.{puzzle}
use Rattle.counts.proofs.Totals.{numbers_are, counts_length}
use Rattle.counts.proofs.call.counts.Goals as goal

pub returns-then-out-lt13 : goal.returns-then-out-lt13
returns-then-out-lt13 c = answers_short _ _ c.in_ok-board.ensures.checked (sym (counts_length (puzzle c.args.words.now))) c.if-out-lt13.true

pub copy_from_slice-requires : goal.copy_from_slice-requires
copy_from_slice-requires c = length-take-le 13 c.args.out.now c.if-out-lt13.false ∙ ap length (sym c.numbers.ensures)

pub returns : goal.returns
returns c =
    let z = puzzle c.args.words.now in
    let copied = c.copy_from_slice.ensures.after ∙ c.numbers.ensures ∙ numbers_are _ c.count_all-counts.ensures ∙ ap counts_of c.new.ensures.puzzle in
    answers_wrote _ _ c.in_ok-board.ensures.checked (omega (arith, counts_length z, c.if-out-lt13.false))
    (rw copied (wrote_at_front (counts_of z) c.args.out.now 13 (sym (counts_length z))))
