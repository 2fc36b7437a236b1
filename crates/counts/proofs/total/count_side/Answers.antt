use mathlib.Core.Path.{sym, ◌∙◌}
use Rattle.placement.specs.declared.rule.Rule.TheVariants.{Positions, Once, Overlap}
use Rattle.counts.proofs.Placed.{lines_length}
use Rattle.counts.proofs.total.count_side.Goals as goal

pub returns : goal.returns
returns c =
    let G = c.args.lines.ready.good in
    record {
      positions_is = c.count_lines-positions.ensures ∙ sym (lines_length _ G Positions _ _ c.requires);
      once_is = c.count_lines-once.ensures ∙ sym (lines_length _ G Once _ _ c.requires);
      overlap_is = c.count_lines-overlap.ensures ∙ sym (lines_length _ G Overlap _ _ c.requires);
    }
