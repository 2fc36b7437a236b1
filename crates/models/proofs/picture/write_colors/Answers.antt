use Rattle.models.proofs.Showing.{coloring_first, coloring_next, coloring_done}
use Rattle.truth.specs.Truth.{value}
use Rattle.models.proofs.picture.write_colors.Goals as goal

pub loop-i-init : goal.loop-i-init
loop-i-init c = coloring_first (value c.args.model.now) c.args.v c.args.n c.args.palette.now _ c.requires.n_in_bounds

pub loop-i-preserved : goal.loop-i-preserved
loop-i-preserved c = coloring_next (value c.args.model.now) c.args.v c.args.n c.args.palette.now c.loop-i.invariant c.loop-i-test.true c.color_of.ensures

pub returns : goal.returns
returns c = coloring_done _ _ _ _ c.loop-i.invariant c.loop-i-test.false
