-- The clauses of the probes that a `Probed` holds.
use mathlib.Core.List.{List}
use Rattle.sections.specs.Sections.{Clause}
use Rattle.implied.specs.ByWords.{of_probes}
use Rattle.implications.specs.declared.painted.Probed as P

abbrev pub clauses_in : P.Probed → List Clause
clauses_in p = of_probes p.painted.shown.board p.painted.palette.now p.words.now
