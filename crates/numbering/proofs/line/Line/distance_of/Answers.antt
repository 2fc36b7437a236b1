use mathlib.Core.Path.{ap}
use Prim.Native.Nat.{◌<◌}
use native.Mathlib.Omega.{arith}
use Rattle.lines.specs.Clue.{Run}
use Rattle.numbering.specs.Variables.{many}
use Rattle.numbering.specs.Held.{line_in}
use Rattle.numbering.proofs.SoundLines.{sound_start, sound_clear, of_many}
use Rattle.numbering.proofs.line.Line.distance_of.Goals as goal

pub distance-requires : goal.distance-requires
distance-requires c =
    let below : c.args.b < many (line_in c.args.self) = rw of_many c.requires.1 in (
      rw (← c.run_at.ensures, ← c.run_at-2.ensures) at (sound_clear c.args.self.sound _ _ c.requires.0 below),
      omega (arith, sound_start c.args.self.sound _ below, ap (λ (r : Run). r.start) c.run_at-2.ensures),
    )
