use native.Mathlib.Omega.{arith}
use Rattle.runs.proofs.LineCells.{strided_whole, whole_strided}
use Rattle.runs.proofs.line.from_line.Goals as goal

pub put_runs-requires : goal.put_runs-requires
put_runs-requires c = (whole_strided _ c.requires.0, rw (strided_whole c.args.line.now) (omega (arith, c.requires.1)))

pub returns : goal.returns
returns c = rw (strided_whole c.args.line.now) at c.put_runs.ensures
