-- No promise allows 16: most checks do not have it, and a model whose clauses are true has no cell of two colours.
use mathlib.Core.List.{List}
use Prim.Native.Nat.{ℕ}
use native.Mathlib.Omega.{arith}
use Rattle.refusals.specs.Verdict.{Checks}
use Rattle.refusals.specs.Outcome.{Outcome}
use Rattle.refusals.specs.Stops.{Never}
use Rattle.refusals.proofs.Never.{accepted_never, then_never, outcome_never}
use Rattle.lines.proofs.Numbers.{clue_never, line_never}
use Rattle.puzzles.specs.Checks.{puzzle, puzzle_checks}
use Rattle.puzzles.proofs.Stopping.{puzzle_never}
use Rattle.grids.proofs.Numbers.{size_never, grid_never}
use Rattle.checker.proofs.Acceptance.{model_never}
use Rattle.probes.proofs.Stopping.{probes_never}
use Rattle.formulas.proofs.Stopping.{words_never}
use Rattle.haafgrim.specs.Sixteen.{NoSixteen, NeverSixteen}

outcome : {A : Type 0} (checks : Checks) (ws out : List A) → Never 16 checks → NoSixteen (Outcome checks ws out)
outcome checks ws out h n p out' o = outcome_never 16 (omega arith) (λ e. omega arith) h o

of_puzzle : (ws : List ℕ) → Never 16 (puzzle_checks ws)
of_puzzle ws = puzzle_never 16 (omega arith) 0 ws

pub never_sixteen : NeverSixteen
never_sixteen = record {
  two_powers = λ mask out. outcome _ _ out (accepted_never 16);
  read_line = λ line out. outcome _ _ out (line_never 16 (λ e. omega arith) (λ e. omega arith) line);
  starts = λ n clue out. outcome _ _ out (clue_never 16 (omega arith) n clue);
  color_ranges = λ n clue out. outcome _ _ out (clue_never 16 (omega arith) n clue);
  read_grid = λ w h grid out. outcome _ _ out (grid_never 16 (λ e. omega arith) (λ e. omega arith) w h grid (λ e. omega arith));
  transpose = λ w h grid out. outcome _ _ out (size_never 16 (λ e. omega arith) (λ e. omega arith) w h grid);
  clauses = λ ws out. outcome _ _ out (of_puzzle ws);
  counts = λ ws out. outcome _ _ out (of_puzzle ws);
  check_model = λ ws model out. outcome _ _ out (then_never 16 (model_never (puzzle ws) model) (puzzle_checks ws) (of_puzzle ws));
  block = λ ws model out. outcome _ _ out (then_never 16 (model_never (puzzle ws) model) (puzzle_checks ws) (of_puzzle ws));
  probe = λ ws probe out. outcome _ _ out (then_never 16 (probes_never (puzzle ws) probe) (puzzle_checks ws) (of_puzzle ws));
  dimacs = λ variables sections ws out. outcome _ _ out (words_never 16 (λ e. omega arith) (λ e. omega arith) variables sections ws);
}
