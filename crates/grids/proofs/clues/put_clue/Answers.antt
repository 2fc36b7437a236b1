use native.Mathlib.Omega.{arith}
use Rattle.runs.specs.Strided.{strided}
use Rattle.lines.proofs.Coloring.{runs_few}
use Rattle.runs.proofs.LineCells.{strided_length}
use Rattle.grids.proofs.ClueSections.{clue_room, clue_count, clue_wrote}
use Rattle.grids.proofs.clues.put_clue.Goals as goal

pub put_runs-to-requires : goal.put_runs-to-requires
put_runs-to-requires c = (c.requires.0, clue_room (strided c.args.from c.args.step c.args.len c.args.cells.now) c.args.out.now c.args.at c.requires.1)

pub overflow_cast-out : goal.overflow_cast-out
overflow_cast-out c =
    let a = c.args in
    let line = strided a.from a.step a.len a.cells.now in
    omega (arith, clue_count line a.out.now a.at c.requires.1 c.put_runs-to.ensures, runs_few line, strided_length a.from a.step a.len a.cells.now, c.requires.0.few)

pub bounds-out-at : goal.bounds-out-at
bounds-out-at c =
    let a = c.args in
    omega (arith, clue_room (strided a.from a.step a.len a.cells.now) a.out.now a.at c.requires.1, c.put_runs-to.auto.out)

pub returns : goal.returns
returns c = clue_wrote _ _ _ c.requires.1 c.put_runs-to.ensures
