use Rattle.probes.specs.Parts.{parts_in}
use Rattle.implications.proofs.ProbeClauses.{SectionFilling}
use Rattle.implications.proofs.write.write_probes.Given as goal

abbrev pub invariant-loop-part : goal.invariant-loop-part
invariant-loop-part l = SectionFilling l.fn.probed.painted.shown.board l.fn.probed.painted.palette.now (parts_in l.fn.probed.words.now) l.initial.out l.out l.to l.part-iterator
