use mathlib.Core.Path.{ap}
use native.Mathlib.Omega.{arith}
use lib.ListN.{length}
use Rattle.points.proofs.PointCells.{cells_within, masks_are, rows_are}
use Rattle.colored.proofs.ModelVariables.{masks_within}
use Rattle.pointed.proofs.precomputed.test_precomputed.Goals as goal

pub overflow_add-cells : goal.overflow_add-cells
overflow_add-cells c = omega (arith, cells_within c.requires.masked.0)

pub offset_bounds-words-cells : goal.offset_bounds-words-cells
offset_bounds-words-cells c = omega (arith, cells_within c.requires.masked.0)

pub slice_bounds-test_masks-count : goal.slice_bounds-test_masks-count
slice_bounds-test_masks-count c = omega (arith, cells_within c.requires.masked.0)

pub slice_bounds-test_masks-start : goal.slice_bounds-test_masks-start
slice_bounds-test_masks-start c = omega (arith, cells_within c.requires.masked.0)

pub test_masks-requires-clause-v_nonzero : goal.test_masks-requires-clause-v_nonzero
test_masks-requires-clause-v_nonzero c =
    let M = c.requires.masked.0 in
    rw (masks_are M) (masks_within c.args.model.now (record { good = M.good; stands = M.stands; hues_are = ap length M.palette_is }) c.requires.masked.1)

pub test_masks-requires-clause-countable : goal.test_masks-requires-clause-countable
test_masks-requires-clause-countable c = rw (rows_are c.requires.masked.0) at c.requires.countable

pub returns : goal.returns
returns c = rw (rows_are c.requires.masked.0) c.test_masks.ensures
