use mathlib.Core.Path.{◌≡◌, sym, ◌∙◌}
use Prim.Native.Nat.{◌+◌}
use native.Mathlib.Omega.{arith}
use lib.Dec.{eqb}
use borrow.Author.Tests.{eq-eqb, ne_eqb}
use Rattle.refusals.proofs.Passing.{word_none, word_some}
use Rattle.lines.specs.Calls.{off_color}
use Rattle.puzzles.specs.Walk.{read_block}
use Rattle.puzzles.proofs.section.BlockReads.read.Goals as goal

pub returns-in_default : goal.returns-in_default
unfolding read_block
returns-in_default c = rw (word_none 1 (λ n. eqb n 0) 4 c.args.at c.args.part.now c.in_default.ensures.cases)

pub returns-then-size-eq0 : goal.returns-then-size-eq0
unfolding read_block
returns-then-size-eq0 c = rw (word_some 1 (λ n. eqb n 0) 4 c.args.at c.in-Some.ensures.cases.0, eq-eqb _ _ c.if-size-eq0.true)

pub returns-in_default-split_first : goal.returns-in_default-split_first
unfolding read_block
returns-in_default-split_first c =
    rw (word_some 1 (λ n. eqb n 0) 4 c.args.at c.in-Some.ensures.cases.0, ne_eqb _ _ c.if-size-eq0.false, word_none 1 off_color 5 (c.args.at + 1) c.in-Some.rest.now c.in_default-split_first.ensures.cases)

pub returns-then-off_color : goal.returns-then-off_color
unfolding read_block
returns-then-off_color c =
    rw (
      word_some 1 (λ n. eqb n 0) 4 c.args.at c.in-Some.ensures.cases.0,
      ne_eqb _ _ c.if-size-eq0.false,
      word_some 1 off_color 5 (c.args.at + 1) c.in-Some-split_first.ensures.cases.0,
      sym c.off_color.ensures ∙ c.if-off_color.true,
    )

pub returns : goal.returns
unfolding read_block
returns c =
    let p : c.args.at + 1 + 1 ≡ c.args.at + 2 = omega arith in
    rw (
      word_some 1 (λ n. eqb n 0) 4 c.args.at c.in-Some.ensures.cases.0,
      ne_eqb _ _ c.if-size-eq0.false,
      word_some 1 off_color 5 (c.args.at + 1) c.in-Some-split_first.ensures.cases.0,
      sym c.off_color.ensures ∙ c.if-off_color.false,
      p,
    )
