pub mod Families
pub mod Formulas
pub mod Counted
