use Rattle.lists.specs.Each.{each}
use Rattle.truth.specs.Truth.{value}
use Rattle.truth.proofs.Testing.{Testing}
use Rattle.placed.specs.Held.{puzzle_tried}
use Rattle.cells.specs.declared.rule.Rule.TheVariants.{Space}
use Rattle.colored.specs.Sides.{of_side}
use Rattle.colored.proofs.spaces.test_spaces.Given as goal

abbrev pub invariant-loop-l : goal.invariant-loop-l
invariant-loop-l l =
    let side = of_side (puzzle_tried l.fn.trial) Space l.color l.v l.x l.row l.y in
    Testing (value l.fn.trial.model.now) l.at (each 2 side) 2 side l.to l.l-index
