use Rattle.tables.proofs.Laying.{Room, room, LineDone, line_done, lay_refused, or_ok, or_err}
use Rattle.std.specs.Prelude.{Err}
use Rattle.std.specs.Result.{result_or}
use Rattle.refusals.specs.declared.Refusal.{Refusal}
use Rattle.refusals.specs.declared.Refusal.TheVariants.{LineTooShort}
use Rattle.refusals.specs.Told.{told}
use Rattle.refusals.proofs.Answering.{handed}
use Rattle.refusals.specs.Verdict.{accepted}
use Rattle.lines.specs.Clue.{gap, min_space}
use Rattle.puzzles.specs.Checks.{puzzle}
use Rattle.puzzles.specs.Puzzle.{clue_at}
use mathlib.Core.Path.{◌≡◌, sym, ap, ap₂, ◌∙◌}
use borrow.Author.Tests.{lt-ltb, le-ltb}
use borrow.Rule.Slice.PartMut.{put_mid}
use lib.ListN.{length}
use Prim.Native.Nat.{◌+◌, ◌-◌, ◌*◌, ◌<◌}
use native.Mathlib.Omega.{arith}
use Rattle.tables.proofs.table.lay_line.Goals as goal
use Rattle.tables.proofs.table.lay_line.Goals.{Start, In_ok-or, In_err-or}

here : (c : Start) → Room c.args.words.now c.requires.sectioned c.args.l c.requires.l_bound.0 c.requires.standing
here c = room _ c.requires.sectioned _ c.requires.l_bound.0 c.requires.standing

-- the refusal that the check of the clue gave
met : (c : In_err-or) → (why : Refusal) × (c.starts-answer.result ≡ Err why)
met c = or_err _ c.starts-answer.result (sym c.or.ensures ∙ c.in_err-or.was)

short : (c : In_err-or) → c.args.cells < min_space gap (clue_at (puzzle c.args.words.now) c.args.l)
short c = lay_refused _ c.requires.sectioned _ c.requires.l_bound.0 c.requires.standing c.requires.l_bound.1 _ c.requires.l_bound.2 c.put_pair-to.ensures c.wide-n.ensures _ c.starts-answer.ensures _ (met c).1

done : (c : In_ok-or) → let to = c.put_pair-to.result in let stored = c.put_pair-to.new.out in
    LineDone (puzzle c.args.words.now) c.args.l c.args.cells c.args.table.now (put_mid to (length stored - to) stored c.starts-answer.new.out) to (to + c.in_ok-or.field-0)
done c = line_done _ c.requires.sectioned _ c.requires.l_bound.0 c.requires.standing c.requires.l_bound.1 _ c.requires.l_bound.2 c.put_pair-to.ensures c.wide-n.ensures _ c.starts-answer.ensures (or_ok _ c.starts-answer.result (sym c.or.ensures ∙ c.in_ok-or.was))

pub offset_bounds-words-at : goal.offset_bounds-words-at
offset_bounds-words-at c = omega (arith, here (goal.at.offset_bounds-words-at c).Start)

pub bounds-words-at : goal.bounds-words-at
bounds-words-at c = omega (arith, here (goal.at.bounds-words-at c).Start)

pub overflow_cast-at : goal.overflow_cast-at
overflow_cast-at c = omega (arith, here (goal.at.overflow_cast-at c).Start)

pub overflow_cast-first : goal.overflow_cast-first
overflow_cast-first c = omega (arith, here (goal.at.overflow_cast-first c).Start)

pub overflow_mul-l : goal.overflow_mul-l
overflow_mul-l c = omega (arith, here (goal.at.overflow_mul-l c).Start)

pub put_pair-to-requires : goal.put_pair-to-requires
put_pair-to-requires c = omega (arith, here (goal.at.put_pair-to-requires c).Start, c.requires.l_bound)

pub slice_bounds-starts-end : goal.slice_bounds-starts-end
slice_bounds-starts-end c = omega (arith, here (goal.at.slice_bounds-starts-end c).Start, c.wide-n.ensures)

pub returns-in_err-or-clause-result_value : goal.returns-in_err-or-clause-result_value
returns-in_err-or-clause-result_value c =
    let answer = handed c.from_residual.result c.from_residual.ensures.1 ∙ sym c.in_err-or.was ∙ c.or.ensures ∙ ap (λ r. result_or r (Err (LineTooShort c.args.l))) (met (goal.at.returns-in_err-or-clause-result_value c).In_err-or).1 in
    ap told answer ∙ rw (lt-ltb _ _ (short (goal.at.returns-in_err-or-clause-result_value c).In_err-or))

pub returns-in_err-or-clause-by_index : goal.returns-in_err-or-clause-by_index
returns-in_err-or-clause-by_index c = λ f. absurd (omega (arith, short (goal.at.returns-in_err-or-clause-by_index c).In_err-or, f))

pub bounds-table-to : goal.bounds-table-to
bounds-table-to c = omega (arith, here (goal.at.bounds-table-to c).Start, c.put_pair-to.ensures, c.requires.l_bound, (done (goal.at.bounds-table-to c).In_ok-or).kept)

pub returns-clause-result_value : goal.returns-clause-result_value
returns-clause-result_value c =
    let D = done (goal.at.returns-clause-result_value c).In_ok-or in
    rw (le-ltb _ _ D.fits) (ap accepted (ap₂ ◌*◌ (c.wide-n.ensures ∙ (here (goal.at.returns-clause-result_value c).Start).count_is) (c.wide.ensures ∙ D.positions_is)))

pub returns-clause-by_index : goal.returns-clause-by_index
returns-clause-by_index c = λ f. (_, (done (goal.at.returns-clause-by_index c).In_ok-or).wrote)
