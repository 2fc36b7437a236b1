pub mod BlockLoops
pub mod RowLaw
pub mod SectionLoops
