pub mod InputWords
pub mod PuzzleText
pub mod Telling
