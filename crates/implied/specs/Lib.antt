pub mod Implications
pub mod ByWords
