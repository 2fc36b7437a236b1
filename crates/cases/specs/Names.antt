-- How a stored case calls each entry.
use Rattle.std.specs.Prelude.{List, ℕ, codes}
use Rattle.cases.specs.declared.entry.Entry.{Entry}
use Rattle.cases.specs.declared.entry.Entry.TheVariants.{TwoPowers, FromTwoPowers, ReadLine, Starts, ColorRanges, ReadGrid, Transpose, Clauses, Counts, CheckModel, Blocking, Probes, Dimacs, Encode, Puzzle}

abbrev pub name_of : Entry → List ℕ
name_of TwoPowers = codes "two_powers"
name_of FromTwoPowers = codes "from_two_powers"
name_of ReadLine = codes "read_line"
name_of Starts = codes "starts"
name_of ColorRanges = codes "color_ranges"
name_of ReadGrid = codes "read_grid"
name_of Transpose = codes "transpose"
name_of Clauses = codes "clauses"
name_of Counts = codes "counts"
name_of CheckModel = codes "check_model"
name_of Blocking = codes "blocking"
name_of Probes = codes "probes"
name_of Dimacs = codes "dimacs"
name_of Encode = codes "encode"
name_of Puzzle = codes "puzzle"
