pub mod Table
pub mod Fakes
