use Rattle.std.proofs.Math.Logic.{∥∥₁_elim}
use Rattle.std.proofs.Props.{props}
use native.Mathlib.Omega.{arith}
use Rattle.cells.proofs.BoardCells.{cell_variables}
use Rattle.cells.proofs.given.Shown.cell_first.Goals as goal

pub overflow_mul-result-2 : goal.overflow_mul-result-2
overflow_mul-result-2 c = ∥∥₁_elim c.args.self.shows (hlevel props) (λ s. omega (arith, cell_variables s.1 _ _ c.requires.0 c.requires.1))

pub overflow_add-result-2 : goal.overflow_add-result-2
overflow_add-result-2 c = ∥∥₁_elim c.args.self.shows (hlevel props) (λ s. omega (arith, cell_variables s.1 _ _ c.requires.0 c.requires.1))

pub returns-clause-variables : goal.returns-clause-variables
returns-clause-variables c = ∥∥₁_elim c.args.self.shows (hlevel props) (λ s. omega (arith, cell_variables s.1 _ _ c.requires.0 c.requires.1))
