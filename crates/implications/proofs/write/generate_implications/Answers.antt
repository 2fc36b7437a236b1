use mathlib.Core.Path.{◌≡◌, ap, ◌∙◌}
use native.Mathlib.Omega.{arith}
use lib.ListN.{length}
use Rattle.numbering.proofs.Palettes.{palette_most}
use Rattle.probes.specs.Words.{claim_at}
use Rattle.implied.specs.ByWords.{first_of}
use Rattle.implications.proofs.ProbeClauses.{probe_impacts}
use Rattle.implications.proofs.write.generate_implications.Goals as goal
use Rattle.implications.proofs.write.generate_implications.Goals.{After-cell_first-v}

-- the first variable of the premise's cell
first_is : (c : After-cell_first-v) → c.cell_first-v.result ≡ first_of c.args.painted.shown.board (length c.args.painted.palette.now) (claim_at c.args.part.now 0)
first_is c = c.cell_first-v.ensures.value ∙ rw (c.args.painted.hues, c.wide.ensures, c.wide-2.ensures)

pub put_premise-n-requires-clause-palette_in_bounds : goal.put_premise-n-requires-clause-palette_in_bounds
put_premise-n-requires-clause-palette_in_bounds c = omega (arith, palette_most c.args.painted.shown.board.colors, ap length c.args.painted.palette_is)

pub put_impacts-requires-clause-impacts_in_bounds : goal.put_impacts-requires-clause-impacts_in_bounds
put_impacts-requires-clause-impacts_in_bounds c = rw (probe_impacts c.args.painted.shown.board c.args.painted.palette.now c.args.part.now (first_is (goal.at.put_impacts-requires-clause-impacts_in_bounds c).After-cell_first-v) c.put_premise-n.ensures) c.requires.part_in_bounds

pub returns : goal.returns
returns c = rw (probe_impacts c.args.painted.shown.board c.args.painted.palette.now c.args.part.now (first_is (goal.at.returns c).After-cell_first-v) c.put_premise-n.ensures) at c.put_impacts.ensures
