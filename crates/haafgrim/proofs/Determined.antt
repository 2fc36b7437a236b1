-- Each entry's promise leaves one answer.
use mathlib.Core.Path.{sym, ◌∙◌}
use mathlib.Core.List.{List}
use Rattle.refusals.specs.Verdict.{Checks}
use Rattle.refusals.specs.Outcome.{Outcome}
use Rattle.refusals.proofs.Answering.{outcome_determined}
use Rattle.haafgrim.specs.Entries.{Determined, EachDetermined}

outcome : {A : Type 0} (checks : Checks) (ws out : List A) → Determined (Outcome checks ws out)
outcome checks ws out n p m q out' out'' a b = outcome_determined ws out a b

pub each_determined : EachDetermined
each_determined = record {
  two_powers = λ mask out. outcome _ _ out;
  from_two_powers = λ ws n m e f. e ∙ sym f;
  read_line = λ line out. outcome _ _ out;
  starts = λ n clue out. outcome _ _ out;
  color_ranges = λ n clue out. outcome _ _ out;
  read_grid = λ w h grid out. outcome _ _ out;
  transpose = λ w h grid out. outcome _ _ out;
  clauses = λ ws out. outcome _ _ out;
  counts = λ ws out. outcome _ _ out;
  check_model = λ ws model out. outcome _ _ out;
  block = λ ws model out. outcome _ _ out;
  probe = λ ws probe out. outcome _ _ out;
  dimacs = λ variables sections ws out. outcome _ _ out;
}
