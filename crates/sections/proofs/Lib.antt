pub mod ClauseLists
pub mod Rows
pub mod Section
