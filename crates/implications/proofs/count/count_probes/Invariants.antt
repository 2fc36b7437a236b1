use Rattle.probes.specs.Parts.{parts_in}
use Rattle.implications.proofs.Counting.{Counting}
use Rattle.implications.proofs.count.count_probes.Given as goal

abbrev pub invariant-loop-part : goal.invariant-loop-part
invariant-loop-part l = Counting l.fn.probed.painted.shown.board (parts_in l.fn.probed.words.now) l.clauses l.words l.part-iterator
