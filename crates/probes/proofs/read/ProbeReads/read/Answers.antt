use mathlib.Core.Path.{sym, ap, ◌∙◌}
use native.Mathlib.Omega.{arith}
use lib.ListN.{length-drop}
use Rattle.lists.proofs.Writing.{tail_is}
use Rattle.refusals.specs.Told.{told}
use Rattle.refusals.proofs.Answering.{handed}
use Rattle.probes.proofs.ProbeWalk.{premise_refused, premise_long, probe_color_off, probe_color_on}
use Rattle.probes.proofs.read.ProbeReads.read.Goals as goal

pub returns-in_err-read : goal.returns-in_err-read
returns-in_err-read c = ap told (handed _ c.from_residual.ensures.1) ∙ premise_refused _ _ _ _ _ _ c.in_err-read.ensures

pub bounds-part-2 : goal.bounds-part-2
bounds-part-2 c = omega (arith, premise_long _ _ _ _ c.in_ok-read.ensures)

pub returns-then-not-is_color : goal.returns-then-not-is_color
returns-then-not-is_color c = probe_color_off _ _ _ _ c.in_ok-read.ensures _ (sym c.is_color.ensures ∙ c.if-not-is_color.true)

pub slice_bounds-read_listed-count : goal.slice_bounds-read_listed-count
slice_bounds-read_listed-count c = premise_long _ _ _ _ c.in_ok-read.ensures

pub slice_bounds-read_listed-start : goal.slice_bounds-read_listed-start
slice_bounds-read_listed-start c = omega (arith, premise_long _ _ _ _ c.in_ok-read.ensures)

pub read_listed-requires : goal.read_listed-requires
read_listed-requires c = rw (tail_is _ _, length-drop) (omega (arith, premise_long _ _ _ _ c.in_ok-read.ensures))

pub returns : goal.returns
returns c = probe_color_on _ _ _ _ c.in_ok-read.ensures _ (sym c.is_color.ensures ∙ c.if-not-is_color.false) c.read_listed.ensures
