-- The code's runs, as those of the definitions.
use Rattle.lines.specs.Clue.{Run}
use Rattle.lines.specs.declared.meet.Run as Code

abbrev pub run : Code.Run → Run
run r = record { start = r.start; size = r.size; color = r.color }
