-- What is counted of the lines behind the first.
use Rattle.std.specs.Prelude.{◌≡◌, List, length}
use Rattle.sections.specs.Sections.{Clause}
use Rattle.dimacs.specs.Text.{clauses_text}
use Rattle.dimacs.specs.declared.count.Extent.{Extent}

-- how many they are, and how many bytes
pub record ExtentIs (cs : List Clause) (r : Extent) : Type 0 where
  pub clauses_are : r.clauses ≡ length cs
  pub bytes_are : r.bytes ≡ length (clauses_text cs)
