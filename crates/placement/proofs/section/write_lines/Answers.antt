use mathlib.Core.Path.{◌≡◌, ap, ◌∙◌}
use Prim.Native.Nat.{ℕ, ◌+◌, ◌-◌}
use native.Mathlib.Omega.{arith}
use lib.IntN.{pos}
use Rattle.lists.proofs.Emitting.{from_room, from_next}
use Rattle.literals.proofs.Words.{word_is}
use Rattle.sections.proofs.Section.{count_room, count_first, count_done}
use Rattle.placement.proofs.SectionLoops.{lines_are}
use Rattle.placement.proofs.section.write_lines.Goals as goal

turns : (from n : ℕ) → from + n - from ≡ n
turns from n = omega arith

none : (from : ℕ) → from - from ≡ 0
none from = omega arith

pub bounds-out-0 : goal.bounds-out-0
bounds-out-0 c = count_room _ _ c.requires.n_in_bounds

pub loop-l-init : goal.loop-l-init
loop-l-init c = record {
  low = omega arith;
  emit = rw (turns c.args.from c.args.n, none c.args.from) (count_first _ _ (lines_are _ _ _ _) c.args.out.now c.requires.n_in_bounds _);
}

pub line_clauses-to-requires : goal.line_clauses-to-requires
line_clauses-to-requires c = rw c.line.ensures (from_room c.loop-l.invariant c.loop-l-test.true)

pub loop-l-preserved : goal.loop-l-preserved
loop-l-preserved c = from_next c.loop-l.invariant c.loop-l-test.true (rw c.line.ensures at c.line_clauses-to.ensures)

pub returns : goal.returns
returns c =
    let E = c.loop-l.invariant in
    count_done _ _ (lines_are _ _ _ _) _ c.requires.n_in_bounds _ (word_is c.count_word.result c.count_word.type_inv ∙ c.count_word.ensures ∙ ap pos c.requires.count_value.0) (rw (turns c.args.from c.args.n) at E.emit) (omega arith)
