use native.Mathlib.Omega.{arith}
use Rattle.probes.proofs.ProbeWalk.{x_missing, x_off, y_missing, y_off, color_missing, color_off, color_on}
use Rattle.probes.proofs.read.ClaimReads.read.Goals as goal

pub returns-in_default : goal.returns-in_default
returns-in_default c = x_missing _ _ _ _ c.in_default.ensures.cases

pub returns-then-self-wide : goal.returns-then-self-wide
returns-then-self-wide c = x_off _ _ _ _ c.in-Some.ensures.cases.0 (omega arith)

pub returns-in_default-split_first : goal.returns-in_default-split_first
returns-in_default-split_first c = y_missing _ _ _ _ c.in-Some.ensures.cases.0 (omega arith) c.in_default-split_first.ensures.cases

pub returns-then-self-wide-2 : goal.returns-then-self-wide-2
returns-then-self-wide-2 c = y_off _ _ _ _ c.in-Some.ensures.cases.0 (omega arith) c.in-Some-split_first.ensures.cases.0 (omega arith)

pub returns-in_default-split_first-2 : goal.returns-in_default-split_first-2
returns-in_default-split_first-2 c = color_missing _ _ _ _ c.in-Some.ensures.cases.0 (omega arith) c.in-Some-split_first.ensures.cases.0 (omega arith) c.in_default-split_first-2.ensures.cases

pub returns-then-color-gt31 : goal.returns-then-color-gt31
returns-then-color-gt31 c = color_off _ _ _ _ c.in-Some.ensures.cases.0 (omega arith) c.in-Some-split_first.ensures.cases.0 (omega arith) c.in-Some-split_first-2.ensures.cases.0 (omega arith)

pub returns : goal.returns
returns c = color_on _ _ _ _ c.in-Some.ensures.cases.0 (omega arith) c.in-Some-split_first.ensures.cases.0 (omega arith) c.in-Some-split_first-2.ensures.cases.0 (omega arith)
