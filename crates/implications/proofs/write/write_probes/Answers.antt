use mathlib.Core.Path.{refl, ap, ◌∙◌}
use lib.IntN.{pos}
use Rattle.literals.proofs.Words.{word_is}
use Rattle.sections.proofs.Section.{count_room}
use Rattle.probes.proofs.AcceptedProbes.{Accepted, accepted_probes}
use Rattle.implications.proofs.ProbePlaces.{formed, few_on_board}
use Rattle.implications.proofs.ProbeClauses.{part_room, section_first, section_next, section_done}
use Rattle.implications.proofs.write.write_probes.Goals as goal
use Rattle.implications.proofs.write.write_probes.Goals.{Start}

taken : (c : Start) → let b = c.args.probed.painted.shown.board in Accepted b.width b.height b.colors c.args.probed.words.now
taken c = let b = c.args.probed.painted.shown.board in accepted_probes b.width b.height b.colors _ c.args.probed.accepted

pub bounds-out-0 : goal.bounds-out-0
bounds-out-0 c = count_room _ _ c.requires.probe_in_bounds

pub of-part-items-requires : goal.of-part-items-requires
of-part-items-requires c = formed (taken (goal.at.of-part-items-requires c).Start)

pub loop-part-init : goal.loop-part-init
loop-part-init c = rw (c.into_iter-part-iterator.ensures.into_iter_gives, c.of-part-items.ensures) (section_first (taken (goal.at.loop-part-init c).Start) _ c.requires.probe_in_bounds _)

pub generate_implications-to-requires-clause-probe_on_board : goal.generate_implications-to-requires-clause-probe_on_board
generate_implications-to-requires-clause-probe_on_board c = few_on_board c.loop-part.invariant.few c.in-Some.ensures.steps c.args.probed.painted.shown.board refl refl

pub generate_implications-to-requires-clause-part_in_bounds : goal.generate_implications-to-requires-clause-part_in_bounds
generate_implications-to-requires-clause-part_in_bounds c = part_room c.loop-part.invariant c.in-Some.ensures.steps

pub loop-part-preserved : goal.loop-part-preserved
loop-part-preserved c = section_next c.loop-part.invariant c.in-Some.ensures.steps c.generate_implications-to.ensures

pub returns : goal.returns
returns c = section_done (taken (goal.at.returns c).Start) _ c.requires.probe_in_bounds _ (word_is c.count_word.result c.count_word.type_inv ∙ c.count_word.ensures ∙ ap pos c.requires.count_value.0) c.loop-part.invariant c.in-None.ensures.steps.0
