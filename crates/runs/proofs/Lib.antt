pub mod Growing
pub mod LineCells
