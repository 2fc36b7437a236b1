use mathlib.Core.Path.{ap, ◌∙◌}
use Rattle.refusals.specs.Told.{checked}
use Rattle.refusals.proofs.Answering.{handed}
use Rattle.grids.proofs.Checking.{size_handed, size_passed}
use Rattle.grids.proofs.read.check_grid.Goals as goal

pub returns-in_err-check_size : goal.returns-in_err-check_size
returns-in_err-check_size c = ap checked (handed c.from_residual.result c.from_residual.ensures.1) ∙ size_handed _ _ _ _ c.in_err-check_size.ensures

pub returns : goal.returns
returns c = c.check_bytes.ensures ∙ size_passed _ _ _ c.in_ok-check_size.ensures
