use Rattle.sections.specs.Sections.{at_most_one}
use Rattle.truth.specs.Truth.{value}
use Rattle.truth.proofs.Testing.{Testing}
use Rattle.numbering.specs.Variables.{many, first_of}
use Rattle.numbering.specs.Held.{line_in}
use Rattle.placement.specs.Placement.{block_once}
use Rattle.placed.proofs.line.test_once.Given as goal

abbrev pub invariant-loop-b : goal.invariant-loop-b
invariant-loop-b l = Testing (value l.fn.trial.model.now) l.at (block_once (line_in l.fn.trial.line)) (many (line_in l.fn.trial.line)) (λ k. at_most_one (first_of (line_in l.fn.trial.line) k) (line_in l.fn.trial.line).positions) l.to l.b
