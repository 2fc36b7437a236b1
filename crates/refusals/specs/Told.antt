-- The number and the place that each case of the answer stands for.
use Rattle.std.specs.Prelude.{Result, Ok, Err}
use Rattle.refusals.specs.declared.Refusal.{Refusal}
use Rattle.refusals.specs.declared.Refusal.TheVariants.{WordMissing, Size, TooManyBlocks, EmptyBlock, BlockColor, LineTooShort, CellCount, EmptyMask, ColumnColor, SolvedColor, LeftOver, OutputTooShort, ModelLength, ModelByte, FalseClause, TwoColors, OffGrid, ColorTooLarge, ProbeColor, TooManyProbeWords, DimacsLimit, ClauseWords, ProgramInput}
use Rattle.refusals.specs.Verdict.{Verdict, Checks, accepted, refused, passed}

abbrev pub refusal : {A : Type 0} → Refusal → Verdict A
refusal (WordMissing p) = refused 1 p
refusal (Size p) = refused 2 p
refusal (TooManyBlocks p) = refused 3 p
refusal (EmptyBlock p) = refused 4 p
refusal (BlockColor p) = refused 5 p
refusal (LineTooShort p) = refused 6 p
refusal (CellCount p) = refused 7 p
refusal (EmptyMask p) = refused 8 p
refusal (ColumnColor p) = refused 9 p
refusal (SolvedColor p) = refused 10 p
refusal (LeftOver p) = refused 11 p
refusal (OutputTooShort p) = refused 12 p
refusal (ModelLength p) = refused 13 p
refusal (ModelByte p) = refused 14 p
refusal (FalseClause p) = refused 15 p
refusal (TwoColors p) = refused 16 p
refusal (OffGrid p) = refused 17 p
refusal (ColorTooLarge p) = refused 18 p
refusal (ProbeColor p) = refused 19 p
refusal (TooManyProbeWords p) = refused 20 p
refusal (DimacsLimit p) = refused 21 p
refusal (ClauseWords p) = refused 22 p
refusal (ProgramInput p) = refused 23 p

-- with what was found
abbrev pub told : {A : Type 0} → Result A Refusal → Verdict A
told (Ok a) = accepted a
told (Err why) = refusal why

-- and without it: what the checks said
abbrev pub checked : {A : Type 0} → Result A Refusal → Checks
checked (Ok a) = passed
checked (Err why) = refusal why
