use mathlib.Core.Path.{◌≡◌, refl}
use Prim.Native.Nat.{◌+◌}
use native.Mathlib.Omega.{arith}
use lib.ListN.{length}
use Rattle.refusals.proofs.Answering.{answers_short, answers_wrote}
use Rattle.sections.specs.Sections.{section_words}
use Rattle.numbering.specs.Variables.{palette}
use Rattle.implied.specs.ByWords.{of_probes}
use Rattle.lists.proofs.Fronts.{front_is}
use Rattle.implications.proofs.Calling.{section_needs}
use Rattle.implications.proofs.call.write_section.Goals as goal
use Rattle.implications.proofs.call.write_section.Goals.{After-count_probes-size}

-- how long the section is
needs : (c : After-count_probes-size) → 1 + c.count_probes-size.result.words ≡ length (section_words (of_probes c.args.board (palette c.args.board.colors) c.args.probe.now))
needs c = section_needs _ (rw (front_is c.palette-k.ensures) at c.count_probes-size.ensures.extent_is.words_is)

pub returns-then-out-need : goal.returns-then-out-need
returns-then-out-need c = answers_short _ _ refl (needs (goal.at.returns-then-out-need c).After-count_probes-size) c.if-out-need.true

pub write_probes-requires-clause-probe_in_bounds : goal.write_probes-requires-clause-probe_in_bounds
write_probes-requires-clause-probe_in_bounds c = omega (arith, section_needs _ c.count_probes-size.ensures.extent_is.words_is, c.if-out-need.false)

pub returns : goal.returns
returns c = answers_wrote _ _ refl (omega (arith, needs (goal.at.returns c).After-count_probes-size, c.if-out-need.false)) (rw (front_is c.palette-k.ensures) at c.write_probes.ensures)
