use Rattle.implications.proofs.Calling.{answers_probes}
use Rattle.puzzles.proofs.Accepting.{accepted_is}
use Rattle.implications.proofs.call.probes.Goals as goal

pub answer_probes-requires : goal.answer_probes-requires
answer_probes-requires c =
    let H = c.in_ok-board.ensures in
    (_, (accepted_is 0 _ H.checked).good, H.stands)

pub returns : goal.returns
returns c = answers_probes c.in_ok-board.ensures _ c.answer_probes.ensures
