pub mod Tails
pub mod Asked
pub mod ClauseVariables
pub mod BufferWords
